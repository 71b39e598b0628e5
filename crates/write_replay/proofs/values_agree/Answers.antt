-- `write_replay::values_agree` meets its contract: each word that is told is the value it is compared with.
use mathlib.Core.Path.{sym, ◌∙◌}
use mathlib.Core.Bool.{false≢true}
use native.Mathlib.Omega.{arith}
use borrow.Author.Tests.{eqb-true}
use Rattle.replay.proofs.Told.{told_values}
use Rattle.write_replay.proofs.Records.{same_values}
use Rattle.write_replay.proofs.values_agree.Goals as goal

pub returns-then-word_is-3 : goal.returns-then-word_is-3
returns-then-word_is-3 c =
    λ pushed.
    told_values _ _ _ _ (omega (arith, c.if-u32_le-eq0.true, c.u32_le.ensures))
    (same_values _
    (eqb-true _ _ (sym c.word_is.ensures ∙ c.if-word_is.true))
    (eqb-true _ _ (sym c.word_is-then-word_is.ensures ∙ c.if-word_is-2.true))
    (eqb-true _ _ (sym c.word_is-then-word_is-2.ensures ∙ c.if-word_is-3.true))
    (eqb-true _ _ (sym c.word_is-then-word_is-3.ensures ∙ pushed)))

pub returns : goal.returns
returns c = λ h. absurd (false≢true h)
