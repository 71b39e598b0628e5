-- `write_plan::count_verdict` meets its contract: each test is a check in the order of the faults, and the first that fails is the verdict.
use Prim.Native.Nat.{ℕ}
use mathlib.Core.Path.{ap}
use borrow.Author.Tests.{lt-ltb, le-ltb}
use Rattle.write_pages.specs.Checks.{at}
use Rattle.write_pages.proofs.Firsts.{first_nothing, first_fails, first_passes}
use Rattle.write_plan.proofs.count_verdict.Goals as goal

pub returns-then-portals-gt585 : goal.returns-then-portals-gt585
unfolding at
returns-then-portals-gt585 c = rw c.from.ensures (λ rest. ap (λ (f : ℕ). at 0 f rest) (first_fails _ 18 _ (lt-ltb _ _ c.if-portals-gt585.true)))

pub returns-then-links-gt8192 : goal.returns-then-links-gt8192
unfolding at
returns-then-links-gt8192 c = rw c.from-then-links-gt8192.ensures (λ rest. ap (λ (f : ℕ). at 0 f rest) (first_passes _ 19 _ _ (le-ltb _ _ c.if-portals-gt585.false) (first_fails _ 19 _ (lt-ltb _ _ c.if-links-gt8192.true))))

pub returns : goal.returns
unfolding at
returns c = λ rest. ap (λ (f : ℕ). at 0 f rest) (first_passes _ 19 _ _ (le-ltb _ _ c.if-portals-gt585.false) (first_passes _ 20 _ _ (le-ltb _ _ c.if-links-gt8192.false) first_nothing))
