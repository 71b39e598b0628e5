-- `leaf_replay::record_at` meets its contract: its fields are the words at `at`, each cut to what is left, as `end_of` says.
use native.Mathlib.Omega.{arith}
use Rattle.leaf_replay.proofs.record_at.Goals as goal

pub returns : goal.returns
returns c =
    let output = c.end_of-output.ensures in
    let next = c.end_of-next.ensures in
    record {
      places = cc;
      bound = record { starts = omega arith; ends = output.start; to_next = next.start; within = next.bound };
    }
