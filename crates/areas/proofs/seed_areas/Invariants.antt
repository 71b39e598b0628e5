-- `areas::seed_areas`: the seeds that are left, added from here, make the whole.
use Rattle.areas.proofs.Seeds.{Seeding}
use Rattle.areas.proofs.seed_areas.Given as goal

abbrev pub invariant-loop-seed : goal.invariant-loop-seed
invariant-loop-seed l = Seeding l.seed-items l.t.ids l.t.len l.seed-index
