-- `write_replay::answer_agrees` meets its contract, by the answer's cases: the length or the refusal that the record tells.
use mathlib.Core.Path.{ap, ◌∙◌}
use Rattle.replay.specs.Told.{told_paper}
use Rattle.replay.proofs.Told.{told_refusal}
use Rattle.write_replay.proofs.answer_agrees.Goals as goal

pub returns-in-Ok : goal.returns-in-Ok
returns-in-Ok c = λ h. ap told_paper c.in-Ok.is ∙ c.values_agree.ensures h

pub returns-in-Err : goal.returns-in-Err
returns-in-Err c =
    λ h.
    let e = c.refusal_agrees.ensures h in
    ap told_paper c.in-Err.is ∙ told_refusal _ _ _ _ _ (λ z. e.0 (c.u32_le.ensures ∙ z)) (e.1 ∙ c.u32_le.ensures) (e.2 ∙ c.u32_le-in-Err.ensures)
