-- `write_runs::fill_run` meets its contract. The loop's invariant: the words passed are stored.
use Prim.Native.Nat.{◌≤◌}
use mathlib.Core.Path.{◌≡◌}
use Rattle.fields.specs.Put.{put}
use Rattle.write_runs.specs.Runs.{run_words}
use Rattle.write_runs.proofs.fill_run.Given as goal

abbrev pub invariant-loop-k : goal.invariant-loop-k
invariant-loop-k l = (l.k ≤ l.count) × (l.strip ≡ put l.from (run_words l.words l.grows l.k) l.initial.strip)
