-- `units::leaf_number_all` meets its contract: the number of what its callee answers.
use native.Mathlib.Omega.{arith}
use mathlib.Core.Path.{◌≡◌, refl, sym, ap, ◌∙◌}
use mathlib.Core.Bool.{false}
use lib.Dec.{eqb}
use Rattle.strip.specs.Outcome.{paper}
use Rattle.strip.specs.Reasons.{reason_number}
use Rattle.strip.specs.declared.Reason.{Reason}
use Rattle.strip.specs.declared.Reason.TheVariants.{ManyVertices}
use Rattle.units.specs.Entries.{count_or_why}
use Rattle.units.proofs.leaf_number_all.Goals as goal

-- the other reasons have other numbers
other : (q : Reason) → (q ≡ ManyVertices → ⊥) → eqb (reason_number q) 14 ≡ false
other ManyVertices h = absurd (h refl)
other _ h = refl

pub returns-in-Ok : goal.returns-in-Ok
returns-in-Ok c =
    let e = c.number_all.ensures in
    record {
      answer = sym (ap count_or_why (sym e.answer ∙ ap paper c.in-Ok.is));
      numbers = λ h. e.numbers _ c.in-Ok.is;
      rest = e.rest;
    }

pub returns-in-ManyVertices : goal.returns-in-ManyVertices
returns-in-ManyVertices c =
    let e = c.number_all.ensures in
    let said = ap count_or_why (sym (ap paper c.in-Err.is) ∙ e.answer) in
    record {
      answer = rw c.in-ManyVertices.is at said;
      numbers = λ h. absurd (omega arith);
      rest = e.rest;
    }

pub returns-in_default : goal.returns-in_default
returns-in_default c =
    let e = c.number_all.ensures in
    let said = ap count_or_why (sym (ap paper c.in-Err.is) ∙ e.answer) in
    record {
      answer = rw (other c.in-Err.refusal.reason c.in_default.not-ManyVertices) at said;
      numbers = λ h. absurd (omega arith);
      rest = e.rest;
    }
