-- `seams::few_seams` meets its contract. The invariant: the counted halves of all the edges are the count and those from number i on.
use Prim.Native.Nat.{◌+◌, ◌*◌}
use native.Mathlib.Nat.{zero-add, sub-zero}
use native.Mathlib.Omega.{arith}
use Rattle.seams.specs.Seams.{counted}
use Rattle.seams.proofs.Row.{by_halves, row_turn, row_done, half_at_lem}
use Rattle.seams.proofs.few_seams.Goals as goal

pub loop-i-init : goal.loop-i-init
loop-i-init c =
    let a = c.args in
    (rw (sub-zero, zero-add) (by_halves (counted a.own) a.strip.now a.at a.n), omega arith)

pub loop-i-preserved : goal.loop-i-preserved
loop-i-preserved c =
    let a = c.args in
    let l = c.loop-i in
    let turn = row_turn (counted a.own) a.strip.now a.at l.i (2 * a.n) c.loop-i-test.true in
    let here = half_at_lem (counted a.own) a.strip.now (a.at + 3 * l.i) c.half_seams-count.ensures.count (omega arith) in
    (omega (arith, turn, here), omega arith)

pub returns : goal.returns
returns c =
    let a = c.args in
    let l = c.loop-i in
    record {
      count = omega (arith, row_done (counted a.own) a.strip.now a.at l.i (2 * a.n) c.loop-i-test.false);
      bound = omega arith;
    }
