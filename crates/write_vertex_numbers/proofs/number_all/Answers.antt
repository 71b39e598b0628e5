-- `write_vertex_numbers::number_all` meets its contract: each way is a law of `Enough`.
use Prim.Native.Nat.{◌/◌, ◌<◌}
use native.Mathlib.Omega.{arith}
use lib.ListN.{length}
use Rattle.write_vertices.specs.Table.{met}
use Rattle.write_vertices.proofs.Triples.{length_met}
use Rattle.write_vertices.proofs.Trees.{trees_fit}
use Rattle.write_vertex_numbers.proofs.Enough.{too_short, no_triple, enough}
use Rattle.write_vertex_numbers.proofs.number_all.Goals as goal

pub returns-then-work-m : goal.returns-then-work-m
returns-then-work-m c = too_short _ _ (omega (arith, length_met c.args.triples.now 0 (length c.args.triples.now / 2), c.if-work-m.true))

pub returns-then-m-eq0 : goal.returns-then-m-eq0
unfolding met
returns-then-m-eq0 c = rw c.if-m-eq0.true (no_triple _)

pub number_in-requires : goal.number_in-requires
number_in-requires c =
    let m = length c.args.triples.now / 2 in
    let some : 0 < m = omega (arith, c.if-m-eq0.false) in
    let fit = trees_fit m _ some c.tree_count-buckets.ensures in
    (fit.0, omega (arith, fit.1), omega arith, omega (arith, fit.2, c.if-work-m.false), omega (arith, c.tree_count-buckets.ensures))

pub returns : goal.returns
returns c = enough _ _ _ _ _ _ (length_met _ _ _) c.if-work-m.false c.tree_count-buckets.ensures c.number_in.ensures
