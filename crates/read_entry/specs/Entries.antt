-- The words that the values of the call make for C. Definitions only.
use Rattle.std.specs.Prelude.{ℕ, List, [], ◌∷◌}
use Rattle.answers.specs.Words.{filled}
use Rattle.read_decide.specs.declared.Parsed.{Parsed}

abbrev pub parsed_words : Parsed → List ℕ
parsed_words p = filled (p.words ∷ p.polys ∷ p.portals ∷ p.points ∷ p.sectors ∷ [])
