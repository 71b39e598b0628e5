-- The words that the values of the call make for C. Definitions only.
use Rattle.std.specs.Prelude.{ℕ, List, [], ◌∷◌}
use Rattle.answers.specs.Words.{filled}

-- how many polygons are marked
abbrev pub reach_words : ℕ → List ℕ
reach_words n = filled (n ∷ [])
