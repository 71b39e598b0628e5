-- `write_leaf_counts::count_ids` meets its contract. What is counted and what is left make the whole. Assumes nothing.
use mathlib.Core.Path.{◌≡◌, ap, ◌∙◌}
use mathlib.Core.Bool.{cond}
use Prim.Native.Nat.{◌-◌, ◌*◌, ◌/◌}
use native.Mathlib.Omega.{arith}
use lib.ListN.{length}
use Rattle.write_pages.specs.Sectors.{meets}
use Rattle.write_leaf_counts.specs.Work.{box_at}
use Rattle.write_leaf_counts.proofs.Picks.{byte_is, keep_one, count_ids_turn, ids_end}
use Rattle.write_leaf_counts.proofs.count_ids.Goals as goal

pub loop-i-init : goal.loop-i-init
loop-i-init c =
    let n = length c.args.boxes.now / 3 in
    let e : n - 0 ≡ n = omega arith in
    (omega arith, rw e (omega arith))

pub loop-i-preserved : goal.loop-i-preserved
loop-i-preserved c =
    let a = c.args in
    let q = a.q in
    let b = meets q (box_at a.boxes.now (3 * c.loop-i.i)) in
    let o : c.from-n.result ≡ cond b 1 0 = rw c.meets_at.ensures at c.from-n.ensures ∙ byte_is b in
    let e = count_ids_turn a.boxes.now q c.loop-i.i (length a.boxes.now / 3) c.loop-i-test.true in
    let k = keep_one b in
    (omega (arith, c.loop-i.invariant.0), omega (arith, c.loop-i.invariant.1))

pub returns : goal.returns
returns c =
    let a = c.args in
    let e = ap length (ids_end a.boxes.now a.q c.loop-i.i (length a.boxes.now / 3) c.loop-i-test.false) in
    omega (arith, c.loop-i.invariant.1)
