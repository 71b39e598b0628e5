-- `write_runs::put_run` meets its contract: `RunAt` says where the given words are and that there is room, `u32_le` gives which word grows, and `fill_run` stores the run; a run of no words stores nothing.
use native.Mathlib.Omega.{arith}
use Rattle.write_runs.proofs.Made.{given_bytes, run_put, run_empty}
use Rattle.write_runs.proofs.put_run.Goals as goal

pub slice_bounds-fill_run-count : goal.slice_bounds-fill_run-count
slice_bounds-fill_run-count c = omega (arith, c.requires.2.words, c.requires.2.goes_on)

pub slice_bounds-fill_run-start : goal.slice_bounds-fill_run-start
slice_bounds-fill_run-start c = omega (arith, c.requires.2.words, c.requires.2.goes_on, c.requires.2.inside)

pub slice_bounds-fill_run-end : goal.slice_bounds-fill_run-end
slice_bounds-fill_run-end c = omega (arith, c.requires.2.words, c.requires.2.goes_on, c.requires.2.inside)

pub overflow_add-at : goal.overflow_add-at
overflow_add-at c = omega arith

pub fill_run-requires : goal.fill_run-requires
fill_run-requires c = (given_bytes _ _ _ _ c.requires.2 c.if-r-gt0.true, c.requires.2.small, omega (arith, c.requires.1, c.requires.2.fits))

pub returns-then-r-gt0 : goal.returns-then-r-gt0
returns-then-r-gt0 c = run_put _ _ _ _ c.requires.2 _ _ _ _ c.u32_le.ensures c.fill_run.ensures

pub returns-else-r-gt0 : goal.returns-else-r-gt0
returns-else-r-gt0 c = run_empty _ _ _ _ c.requires.2 _ _ (λ z. omega arith)
