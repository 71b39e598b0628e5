-- The words that the values of the call make for C. Definitions only.
use Rattle.std.specs.Prelude.{ℕ, List, [], ◌∷◌}
use Rattle.answers.specs.Words.{filled}
use Rattle.ynv_write.specs.declared.Written.{Written}

abbrev pub written_words : Written → List ℕ
written_words w = filled (w.length ∷ w.stored ∷ w.dropped ∷ w.pushed ∷ [])
