-- `read_replay::answer_agrees` meets its contract, by the answer's cases: the counts or the refusal that the record tells.
use borrow.Author.Tests.{eqb-true}
use mathlib.Core.Path.{ap, sym, ◌∙◌}
use Rattle.replay.specs.Told.{told_paper}
use Rattle.replay.proofs.Told.{told_values, told_refusal}
use Rattle.read_replay.proofs.answer_agrees.Goals as goal

pub returns-then-u32_le-eq0 : goal.returns-then-u32_le-eq0
returns-then-u32_le-eq0 c = λ h. ap told_paper c.in-Ok.is ∙ told_values _ _ _ _ (sym c.u32_le.ensures ∙ c.if-u32_le-eq0.true) (c.counts_agree.ensures h)

pub returns-else-u32_le-eq0 : goal.returns-else-u32_le-eq0
returns-else-u32_le-eq0 c = λ h. absurd (c.if-u32_le-eq0.false (eqb-true _ _ h))

pub returns-in-Err : goal.returns-in-Err
returns-in-Err c =
    λ h.
    let e = c.refusal_agrees.ensures h in
    ap told_paper c.in-Err.is ∙ told_refusal _ _ _ _ _ (λ z. e.0 (c.u32_le-in-Err.ensures ∙ z)) (e.1 ∙ c.u32_le-in-Err.ensures) (e.2 ∙ c.u32_le-in-Err-2.ensures)
