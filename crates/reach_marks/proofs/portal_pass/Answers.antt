-- `reach_marks::portal_pass` meets its contract. The invariant: the portals that are left make of the marks what all of them make of the first ones.
use borrow.Author.Rules.{rules}
use Rattle.std.proofs.Common.{◌≡◌, ◌+◌, ◌*◌}
use mathlib.Core.Path.{refl, sym, ◌∙◌}
use native.Mathlib.Nat.{sub-zero}
use native.Mathlib.Omega.{arith}
use Rattle.reach_marks.proofs.Turns.{portal_turn, portals_done}
use Rattle.reach_marks.proofs.portal_pass.Goals as goal

pub loop-i-init : goal.loop-i-init
loop-i-init c =
    let first : c.args.at + 11 * 0 ≡ c.args.at = omega arith in
    (refl, rw (first, sub-zero))

pub loop-i-preserved : goal.loop-i-preserved
loop-i-preserved c = (search rules, portal_turn _ _ _ _ _ c.loop-i-test.true _ _ _ c.loop-i.invariant.1 c.cross.ensures)

pub returns : goal.returns
returns c = sym (c.loop-i.invariant.1 ∙ portals_done _ _ _ _ _ c.loop-i-test.false _)
