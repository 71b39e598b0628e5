-- `write_polygon_checks::decide_polygon` meets its contract: the checks before the corners, those of the corners and 16, in their order.
use Prim.Native.Nat.{◌+◌, ◌≤◌}
use native.Mathlib.Omega.{arith}
use lib.ListN.{length}
use Rattle.std.proofs.lemmas.Result.{err_from_is_err_and}
use Rattle.strip.specs.Reading.{polygon_of}
use Rattle.write_corner_checks.specs.Steps.{HasFault}
use Rattle.write_polygon_checks.specs.Steps.{run_fault}
use Rattle.strip.proofs.Lengths.{vertex_count_lem, link_count}
use Rattle.write_polygon_checks.proofs.Onward.{bad_run_ready, bad_corner, many_links, polygon_fine}
use Rattle.write_polygon_checks.proofs.decide_polygon.Goals as goal
use Rattle.write_polygon_checks.proofs.decide_polygon.Goals.{After-check_run}

run : (c : After-check_run) → HasFault c.check_run.result (run_fault (length (polygon_of c.args.strip.now c.args.p).vertices) c.args.start)
run c = rw (vertex_count_lem c.args.strip.now c.args.p) c.check_run.ensures

room : (c : After-check_run) → c.args.start + length (polygon_of c.args.strip.now c.args.p).vertices ≤ c.args.room
room c = omega (arith, vertex_count_lem c.args.strip.now c.args.p, c.requires.2)

pub returns-in_err-check_run : goal.returns-in_err-check_run
returns-in_err-check_run c =
    let q = polygon_of c.args.strip.now c.args.p in
    let p = err_from_is_err_and c.from_residual.result c.from_residual.ensures.1 in
    rw (p.1, p.2) (record { polygon = bad_run_ready _ _ _ _ _ _ _ _ q _ (run (goal.at.returns-in_err-check_run c).After-check_run) c.requires.3 _ c.in_err-check_run.was; pushed = tt })

pub returns-in_err-pushed : goal.returns-in_err-pushed
returns-in_err-pushed c =
    let q = polygon_of c.args.strip.now c.args.p in
    let p = err_from_is_err_and c.from_residual-in_err-pushed.result c.from_residual-in_err-pushed.ensures.1 in
    let here = (goal.at.returns-in_err-pushed c).After-check_run in
    rw (p.1, p.2) (record { polygon = bad_corner _ _ _ _ _ _ _ _ q _ (run here) _ c.in_ok-check_run.was (room here) _ _ _ _ c.decide_vertices.ensures.corners _ c.in_err-pushed.was; pushed = tt })

pub returns-then-p-gt7 : goal.returns-then-p-gt7
returns-then-p-gt7 c =
    let q = polygon_of c.args.strip.now c.args.p in
    let here = (goal.at.returns-then-p-gt7 c).After-check_run in
    record {
      polygon = many_links _ _ _ _ _ _ _ _ q _ (run here) _ c.in_ok-check_run.was (room here) _ _ _ _ c.decide_vertices.ensures.corners _ c.in_ok-pushed.was (omega (arith, link_count c.args.strip.now c.args.p, c.if-p-gt7.true));
      pushed = tt;
    }

pub returns : goal.returns
returns c =
    let q = polygon_of c.args.strip.now c.args.p in
    let here = (goal.at.returns c).After-check_run in
    record {
      polygon = polygon_fine _ _ _ _ _ _ _ _ q _ (run here) _ c.in_ok-check_run.was (room here) _ _ _ _ c.decide_vertices.ensures.corners _ c.in_ok-pushed.was (omega (arith, link_count c.args.strip.now c.args.p, c.if-p-gt7.false));
      pushed = c.in_ok-pushed.ensures.pushed;
    }
