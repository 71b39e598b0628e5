-- `write_runs::fill_run` meets its contract. The loop's invariant: the words passed are stored.
use Prim.Native.Nat.{ℕ}
use native.Mathlib.Omega.{arith}
use mathlib.Core.Path.{ap, ◌∙◌}
use mathlib.Core.List.{List}
use lib.ListN.{length}
use Rattle.fields.proofs.Puts.{length_put}
use Rattle.write_runs.proofs.Made.{run_start, run_turn, run_done}
use Rattle.write_runs.proofs.fill_run.Goals as goal

pub loop-k-init : goal.loop-k-init
loop-k-init c = (omega arith, run_start _ _ _ _)

pub bounds-strip-from : goal.bounds-strip-from
bounds-strip-from c = omega (arith, ap (λ (l : List ℕ). length l) c.loop-k.invariant.1 ∙ length_put _ _ _)

pub loop-k-preserved : goal.loop-k-preserved
loop-k-preserved c = (omega arith, run_turn _ _ _ _ _ _ _ c.loop-k.invariant.1 c.run_word.ensures)

pub returns : goal.returns
returns c = run_done _ _ _ _ _ _ _ c.loop-k.invariant.0 (omega arith) c.loop-k.invariant.1
