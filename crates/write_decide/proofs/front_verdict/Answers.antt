-- `write_decide::front_verdict` meets its contract: each test is a check in the order of the faults, and the first that fails is the verdict.
use Prim.Native.Nat.{ℕ}
use mathlib.Core.Path.{sym, ap, ◌∙◌}
use mathlib.Core.Bool.{not}
use borrow.Author.Tests.{lt-ltb, le-ltb}
use Rattle.write_pages.specs.Checks.{at}
use Rattle.write_pages.proofs.Firsts.{first_nothing, first_fails, first_passes}
use Rattle.write_decide.proofs.front_verdict.Goals as goal

pub returns-then-work-strip : goal.returns-then-work-strip
unfolding at
returns-then-work-strip c = rw c.from.ensures (λ rest. ap (λ (f : ℕ). at 0 f rest) (first_fails _ 0 _ (lt-ltb _ _ c.if-work-strip.true)))

pub returns-then-not-finite_box : goal.returns-then-not-finite_box
unfolding at
returns-then-not-finite_box c = rw c.from-then-not-finite_box.ensures (λ rest. ap (λ (f : ℕ). at 0 f rest) (first_passes _ 1 _ _ (le-ltb _ _ c.if-work-strip.false) (first_fails _ 9 _ (sym (ap not c.finite_box.ensures) ∙ ap not c.if-not-finite_box.true))))

pub returns-then-polys-gt16383 : goal.returns-then-polys-gt16383
unfolding at
returns-then-polys-gt16383 c = rw c.from-then-polys-gt16383.ensures (λ rest. ap (λ (f : ℕ). at 0 f rest) (first_passes _ 1 _ _ (le-ltb _ _ c.if-work-strip.false) (first_passes _ 10 _ _ (sym (ap not c.finite_box.ensures) ∙ ap not c.if-not-finite_box.false) (first_fails _ 10 _ (lt-ltb _ _ c.if-polys-gt16383.true)))))

pub returns : goal.returns
unfolding at
returns c = λ rest. ap (λ (f : ℕ). at 0 f rest) (first_passes _ 1 _ _ (le-ltb _ _ c.if-work-strip.false) (first_passes _ 10 _ _ (sym (ap not c.finite_box.ensures) ∙ ap not c.if-not-finite_box.false) (first_passes _ 11 _ _ (le-ltb _ _ c.if-polys-gt16383.false) first_nothing)))
