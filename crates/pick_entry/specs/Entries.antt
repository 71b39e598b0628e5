-- The words that the values of the two calls make for C. Definitions only.
use Rattle.std.specs.Prelude.{ℕ, List, [], ◌∷◌, Option, Some, None}
use Rattle.answers.specs.Words.{filled}
use Rattle.pick_contains.specs.declared.Spot.{Spot}

-- whether there is a polygon, and its number
abbrev pub found_words : Option ℕ → List ℕ
found_words (Some n) = filled (1 ∷ n ∷ [])
found_words None = filled (0 ∷ [])

abbrev pub spot_words : Spot → List ℕ
spot_words s = filled (s.x ∷ s.y ∷ [])
