-- `resource::part_of` meets its contract: each return is one case of `part`. The part inside starts off bytes into s, and an empty one is not inside.
use Prim.Native.Nat.{◌+◌}
use mathlib.Core.Path.{refl, sym, ◌∙◌}
use mathlib.Core.Bool.{false≢true}
use native.Mathlib.Omega.{arith}
use native.Mathlib.Nat.{add-sub_cancel_left}
use lib.ListN.{length}
use borrow.Author.Tests.{leb-true, leb-false}
use Rattle.resource.proofs.Parts.{inside, outside}
use Rattle.resource.proofs.part_of.Goals as goal

pub overflow_add-result : goal.overflow_add-result
overflow_add-result c =
    let a = c.args in
    omega (arith, leb-true (a.off + a.len) (length a.s.now) (sym c.inside.ensures ∙ c.if-inside.true))

pub slice_bounds-result-end : goal.slice_bounds-result-end
slice_bounds-result-end c = leb-true _ _ (sym c.inside.ensures ∙ c.if-inside.true)

pub returns-then-inside : goal.returns-then-inside
returns-then-inside c =
    record {
      content = simp add-sub_cancel_left (sym (inside _ _ _ (leb-true _ _ (sym c.inside.ensures ∙ c.if-inside.true))));
      place = λ h. refl;
    }

pub returns : goal.returns
returns c =
    let out = sym c.inside.ensures ∙ c.if-inside.false in
    record {
      content = sym (outside _ _ _ (leb-false _ _ out));
      place = λ h. absurd (false≢true (sym out ∙ h));
    }
