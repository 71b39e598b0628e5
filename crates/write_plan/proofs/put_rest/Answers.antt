-- `write_plan::put_rest` meets its contract: boxes and leaves are stored one behind the other, and there is room for both (`rest_fits`, `rest_stored`). Assumes nothing.
use native.Mathlib.Omega.{arith}
use lib.ListN.{length}
use Rattle.strip.specs.Reading.{head_at}
use Rattle.cell_record.specs.Record.{record_of}
use Rattle.write_decide.proofs.Places.{cut}
use Rattle.write_plan.proofs.Rest.{rest_fits, rest_stored}
use Rattle.write_plan.proofs.put_rest.Goals as goal

pub work_places-places-requires : goal.work_places-places-requires
work_places-places-requires c = omega (arith, rest_fits c.args.strip.now c.args.counts c.requires.0 c.requires.2, c.requires.3, c.well_formed)

pub put_boxes-requires : goal.put_boxes-requires
put_boxes-requires c = (omega (arith, c.requires.2), omega (arith, cut (length c.args.strip.now) c.args.counts c.work_places-places.ensures, rest_fits c.args.strip.now c.args.counts c.requires.0 c.requires.2, c.requires.3))

pub put_leaves-requires : goal.put_leaves-requires
put_leaves-requires c = (
  omega (arith, c.requires.2),
  omega (
    arith,
    cut (length c.args.strip.now) c.args.counts c.work_places-places.ensures,
    rest_fits c.args.strip.now c.args.counts c.requires.0 c.requires.2,
    c.requires.3,
    c.put_boxes.auto,
  ),
)

pub returns : goal.returns
unfolding head_at record_of
returns c =
    let stored = rw c.requires.1 at c.put_leaves.ensures in
    let root = rw c.requires.1 at c.root_box-b.ensures in
    rest_stored _ c.args.counts _ _ _ _ _ _ c.work_places-places.ensures c.first_point-first.ensures root c.put_boxes.ensures stored
