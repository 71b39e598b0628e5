-- `write_edges::put_run` meets its contract. The invariant, `Halving`: the edges that are left, stored from here, make the whole. No word of an edge
use native.Mathlib.Omega.{arith}
use lib.ListN.{length-set}
use Rattle.strip.specs.Reading.{polygon_of}
use Rattle.write_edges.proofs.Halves.{halving, halving_turn, halved}
use Rattle.write_edges.proofs.put_run.Goals as goal

pub loop-i-init : goal.loop-i-init
loop-i-init c = λ v. halving _ _ _ _ _ _ _ _ _ _

pub half_item-a-requires : goal.half_item-a-requires
half_item-a-requires c = λ h. omega (arith, c.requires.0)

pub half_item-b-requires : goal.half_item-b-requires
half_item-b-requires c = λ h. omega (arith, c.requires.0)

pub offset_bounds-work-place : goal.offset_bounds-work-place
offset_bounds-work-place c = omega (arith, c.loop-i-test.true, c.requires.2, c.well_formed)

pub bounds-work-place : goal.bounds-work-place
bounds-work-place c = omega (arith, (c.loop-i.invariant 0).long, c.loop-i-test.true, c.requires.2)

pub offset_bounds-work-place-in-loop-i : goal.offset_bounds-work-place-in-loop-i
offset_bounds-work-place-in-loop-i c = omega (arith, c.loop-i-test.true, c.requires.2, c.well_formed)

pub bounds-work-place-in-loop-i : goal.bounds-work-place-in-loop-i
bounds-work-place-in-loop-i c = simp length-set (omega (arith, (c.loop-i.invariant 0).long, c.loop-i-test.true, c.requires.2))

pub loop-i-preserved : goal.loop-i-preserved
loop-i-preserved c = λ v. halving_turn _ _ _ _ _ _ _ _ _ _ _ _ (c.loop-i.invariant v) c.loop-i-test.true _ _ c.half_item-a.ensures c.half_item-b.ensures

pub returns : goal.returns
unfolding polygon_of
returns c = halved _ _ _ _ _ _ _ _ _ _ _ _ (c.loop-i.invariant c.args.p.vertex_at) c.loop-i-test.false
