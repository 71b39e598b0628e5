-- `reach_marks::edge_pass` meets its contract. The invariant: the edges that are left make of the marks what all of them make of the first ones.
use borrow.Author.Rules.{rules}
use Rattle.std.proofs.Common.{◌≡◌, ◌+◌, ◌*◌}
use mathlib.Core.Path.{refl, sym, ◌∙◌}
use native.Mathlib.Nat.{sub-zero}
use native.Mathlib.Omega.{arith}
use Rattle.reach_marks.proofs.Turns.{edge_turn, edges_done}
use Rattle.reach_marks.proofs.edge_pass.Goals as goal

pub loop-i-init : goal.loop-i-init
loop-i-init c =
    let first : c.args.at + 6 * 0 ≡ c.args.at = omega arith in
    (refl, rw (first, sub-zero))

pub loop-i-preserved : goal.loop-i-preserved
loop-i-preserved c =
    let l = c.loop-i in
    (search rules, edge_turn c.args.strip.now _ c.args.at _ _ c.loop-i-test.true l.marks _ _ _ _ l.invariant.1 c.half_pass.ensures c.half_pass-in-loop-i.ensures (omega arith))

pub returns : goal.returns
returns c = sym (c.loop-i.invariant.1 ∙ edges_done _ _ _ _ _ c.loop-i-test.false _)
