-- `strip_check::edges_fit` meets its contract. The invariant: what is asked of all the edges is what is asked of those that are left.
use Rattle.std.proofs.Common.{arith, ◌≡◌, ◌+◌, ◌*◌, sym, ◌∙◌}
use Rattle.strip.proofs.Steps.{fit_turn, fit_not_a, fit_not_b, fit_done}
use Rattle.strip_check.proofs.edges_fit.Goals as goal
use Rattle.strip_check.proofs.edges_fit.Goals.{then-strip-edge-ge16777216-via-then-strip-edge-ge16777216, then-strip-edge-ge16777216-via-else-strip-edge-ge16777216+then-strip-edge-ge16777216-2}

pub returns-then-strip-edge-ge16777216 : goal.returns-then-strip-edge-ge16777216
returns-then-strip-edge-ge16777216 c =
    elim c.then-strip-edge-ge16777216.branch [
      | then-strip-edge-ge16777216-via-then-strip-edge-ge16777216 w ↦
          sym (c.loop-i.invariant ∙ fit_not_a _ _ _ _ c.loop-i-test.true w.if-strip-edge-ge16777216.true)
      | then-strip-edge-ge16777216-via-else-strip-edge-ge16777216+then-strip-edge-ge16777216-2 w ↦
          sym (c.loop-i.invariant ∙ fit_not_b _ _ _ _ c.loop-i-test.true w.if-strip-edge-ge16777216.false w.if-strip-edge-ge16777216-2.true)
    ]

pub loop-i-preserved : goal.loop-i-preserved
loop-i-preserved c =
    let a = c.args in
    let next : a.at + 6 * (c.loop-i.i + 1) ≡ a.at + 6 * c.loop-i.i + 6 = omega arith in
    rw next (c.loop-i.invariant ∙ fit_turn _ _ _ _ c.loop-i-test.true (omega arith) (omega arith))

pub returns : goal.returns
returns c = sym (c.loop-i.invariant ∙ fit_done _ _ _ _ c.loop-i-test.false)
