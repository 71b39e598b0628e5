-- `seams::few_seams` meets its contract. The invariant: the counted halves of all the edges are the count and those from number i on.
use Prim.Native.Nat.{◌+◌, ◌-◌, ◌*◌, ◌≤◌}
use mathlib.Core.Path.{◌≡◌}
use Rattle.strip.specs.Reading.{edges_at}
use Rattle.seams.specs.Seams.{counted, edge_count}
use Rattle.seams.proofs.Row.{row_count}
use Rattle.seams.proofs.few_seams.Given as goal

abbrev pub invariant-loop-i : goal.invariant-loop-i
invariant-loop-i l =
    (edge_count (counted l.own) (edges_at l.strip l.at l.n) ≡ l.count + row_count (counted l.own) l.strip l.at l.i (2 * l.n - l.i)) × (l.count ≤ l.i)
