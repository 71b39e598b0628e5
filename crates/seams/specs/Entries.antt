-- The words that the values of the call make for C. Definitions only.
use Rattle.std.specs.Prelude.{ℕ, List, [], ◌∷◌}
use Rattle.answers.specs.Words.{filled}

abbrev pub seam_words : ℕ → List ℕ
seam_words n = filled (n ∷ [])
