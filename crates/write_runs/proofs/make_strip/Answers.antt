-- `write_runs::make_strip` meets its contract. The loop's invariant: the runs passed are made. The measure is how many bytes of runs are left.
use native.Mathlib.Omega.{arith}
use Rattle.write_runs.proofs.Made.{making_start, making_long, making_turn, making_done}
use Rattle.write_runs.proofs.make_strip.Goals as goal

pub loop-at-init : goal.loop-at-init
loop-at-init c = making_start _ _

pub overflow_sub-runs : goal.overflow_sub-runs
overflow_sub-runs c = omega (arith, c.loop-at.invariant.within)

pub overflow_sub-strip : goal.overflow_sub-strip
overflow_sub-strip c = omega (arith, c.loop-at.invariant.fits, making_long _ _ _ _ _ c.loop-at.invariant)

pub run_at-r-requires : goal.run_at-r-requires
run_at-r-requires c = omega (arith, c.loop-at.invariant.within)

pub put_run-requires : goal.put_run-requires
put_run-requires c = (omega (arith, c.loop-at.invariant.within), omega (arith, c.loop-at.invariant.fits, making_long _ _ _ _ _ c.loop-at.invariant), c.run_at-r.ensures)

pub overflow_add-made : goal.overflow_add-made
overflow_add-made c = omega (arith, c.run_at-r.ensures.fits, c.loop-at.invariant.fits, making_long _ _ _ _ _ c.loop-at.invariant)

pub loop-at-smaller : goal.loop-at-smaller
loop-at-smaller c = omega (arith, c.run_at-r.ensures.goes_on, c.run_at-r.ensures.inside)

pub loop-at-preserved : goal.loop-at-preserved
loop-at-preserved c = making_turn _ _ _ _ _ c.loop-at.invariant (omega (arith, c.loop-at.invariant.within)) _ c.run_at-r.ensures _ c.put_run.ensures

pub returns : goal.returns
returns c =
    record {
      bound = c.loop-at.invariant.fits;
      content = making_done _ _ _ _ _ c.loop-at.invariant (omega (arith, c.loop-at.invariant.within));
      size = making_long _ _ _ _ _ c.loop-at.invariant;
    }
