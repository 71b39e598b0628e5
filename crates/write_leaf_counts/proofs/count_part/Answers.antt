-- `write_leaf_counts::count_part` meets its contract: what is counted and what is left make the whole.
use mathlib.Core.Path.{◌≡◌, ◌∙◌}
use mathlib.Core.Bool.{cond}
use native.Mathlib.Omega.{arith}
use lib.Dec.{eqb}
use lib.ListN.{length, get_or}
use Rattle.write_leaf_counts.proofs.Picks.{byte_is, keep_one, count_turn, count_end}
use Rattle.write_leaf_counts.proofs.count_part.Goals as goal

pub loop-leaf-preserved : goal.loop-leaf-preserved
loop-leaf-preserved c =
    let l = c.loop-leaf in
    let w = c.args.part.now in
    let b = eqb (get_or w l.leaf-index 0) c.args.k in
    let e = count_turn w c.args.k l.leaf-index (length w) c.loop-leaf-test.true in
    let one : c.from-n.result ≡ cond b 1 0 = c.from-n.ensures ∙ byte_is b in
    let few = keep_one b in
    (omega (arith, l.invariant.0), omega (arith, l.invariant.1))

pub returns : goal.returns
returns c =
    let e = count_end c.args.part.now c.args.k c.loop-leaf.leaf-index (length c.args.part.now) c.loop-leaf-test.false in
    omega (arith, c.loop-leaf.invariant.1)
