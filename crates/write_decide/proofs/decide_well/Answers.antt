-- `write_decide::decide_well` meets its contract: the seeds and the cleared table are where the polygons begin, and what they leave is the answer.
use mathlib.Core.Path.{refl}
use native.Mathlib.Omega.{arith}
use lib.ListN.{length}
use Rattle.std.proofs.lemmas.Result.{err_from_is_err_and}
use Rattle.strip.specs.Reading.{head_at}
use Rattle.cell_record.specs.Record.{record_of}
use Rattle.areas.proofs.Seeds.{seeds_long, seeds_are}
use Rattle.write_decide.proofs.Fronts.{trees_in, ready, polygons_bad, polygons_done}
use Rattle.write_decide.proofs.decide_well.Goals as goal

pub decide_polygons-requires : goal.decide_polygons-requires
decide_polygons-requires c =
    let trees = c.tree_count-buckets.ensures in
    let fit = (trees_in (length c.args.strip.now) c.requires.0).2 in
    (c.requires.1, omega arith, rw trees (ready c.args.strip.now _ _ c.requires.0 c.requires.2 _ (omega (arith, trees, fit)) (omega (arith, trees, fit, c.requires.2)) c.clear.ensures _ (seeds_long _ _ c.seed_areas-seeded.ensures)))

pub returns-in_err-d : goal.returns-in_err-d
unfolding head_at record_of
returns-in_err-d c =
    let decided = c.decide_polygons in
    let s = c.args.strip.now in
    let trees = c.tree_count-buckets.ensures in
    let fit = (trees_in (length s) c.requires.0).2 in
    let done = rw (c.tree_count-buckets.ensures, c.frame.ensures, c.record_at-cell.ensures) at decided.ensures.polygons in
    let pushed = rw (c.frame.ensures, c.record_at-cell.ensures) at decided.ensures.pushed in
    let seeds = rw c.record_at-cell.ensures at (seeds_are _ _ c.seed_areas-seeded.ensures) in
    let p = err_from_is_err_and c.from_residual.result c.from_residual.ensures.1 in
    rw (p.1, p.2) (polygons_bad s c.args.counts (head_at s 0) _ c.record_at-cell.ensures _ _ _ _ _ _ _ c.requires.0 c.requires.2 _ (omega (arith, trees, fit)) (omega (arith, trees, fit, c.requires.2)) c.clear.ensures refl seeds done pushed (omega (arith, trees, fit)) _ c.in_err-d.was)

pub returns : goal.returns
unfolding head_at record_of
returns c =
    let decided = c.decide_polygons in
    let s = c.args.strip.now in
    let trees = c.tree_count-buckets.ensures in
    let fit = (trees_in (length s) c.requires.0).2 in
    let done = rw (c.tree_count-buckets.ensures, c.frame.ensures, c.record_at-cell.ensures) at decided.ensures.polygons in
    let pushed = rw (c.frame.ensures, c.record_at-cell.ensures) at decided.ensures.pushed in
    let seeds = rw c.record_at-cell.ensures at (seeds_are _ _ c.seed_areas-seeded.ensures) in
    rw c.areas_of-areas.ensures (polygons_done s c.args.counts (head_at s 0) _ c.record_at-cell.ensures _ _ _ _ _ _ _ c.requires.0 c.requires.2 _ (omega (arith, trees, fit)) (omega (arith, trees, fit, c.requires.2)) c.clear.ensures refl seeds done pushed (omega (arith, trees, fit)) _ c.in_ok-d.was)
