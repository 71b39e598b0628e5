-- The words that the values of the call make for C. Definitions only.
use Rattle.std.specs.Prelude.{ℕ, List, [], ◌∷◌}
use Rattle.answers.specs.Words.{filled}

-- the bytes of the text
abbrev pub obj_words : ℕ → List ℕ
obj_words n = filled (n ∷ [])
