-- `seams::many_seams` meets its contract. The invariant: the counted halves of all the edges are the count and those of the edges that are left.
use Prim.Native.Nat.{◌+◌, ◌-◌, ◌*◌, ◌≤◌}
use mathlib.Core.Path.{◌≡◌}
use Rattle.strip.specs.Reading.{edges_at}
use Rattle.seams.specs.Seams.{counted, edge_count}
use Rattle.seams.proofs.many_seams.Given as goal

abbrev pub invariant-loop-i : goal.invariant-loop-i
invariant-loop-i l =
    (edge_count (counted l.own) (edges_at l.strip l.at l.n) ≡ l.count + edge_count (counted l.own) (edges_at l.strip (l.at + 6 * l.i) (l.n - l.i))) × (l.count ≤ 2 * l.i)
