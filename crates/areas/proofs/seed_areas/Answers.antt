-- `areas::seed_areas` meets its contract: the table of the seeds, added one after the other.
use Rattle.std.proofs.Common.{refl, arith}
use Rattle.areas.proofs.Seeds.{seeding_start, seeding_turn, seeding_done}
use Rattle.areas.proofs.seed_areas.Goals as goal

pub loop-seed-init : goal.loop-seed-init
loop-seed-init c = rw c.areas_of-t.ensures (seeding_start _)

pub loop-seed-preserved : goal.loop-seed-preserved
loop-seed-preserved c =
    let at = c.loop-seed in
    let test = c.loop-seed-test.true in
    seeding_turn _ _ _ at.seed-index _ at.invariant test (omega (arith, test)) refl _ c.ensure_area.ensures.table

pub returns : goal.returns
returns c =
    let at = c.loop-seed in
    seeding_done _ _ _ at.seed-index at.invariant (omega (arith, c.loop-seed-test.false, at.auto.seed-index-end)) (omega (arith, at.auto.seed-index-end))
