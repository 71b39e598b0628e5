-- `reach_marks::edge_pass` meets its contract. The invariant: the edges that are left make of the marks what all of them make of the first ones.
use Prim.Native.Nat.{◌+◌, ◌-◌, ◌*◌}
use lib.ListN.{length}
use mathlib.Core.Path.{◌≡◌}
use Rattle.strip.specs.Reading.{edges_at}
use Rattle.reach_marks.specs.Marks.{edge_pass}
use Rattle.reach_marks.proofs.edge_pass.Given as goal

abbrev pub invariant-loop-i : goal.invariant-loop-i
invariant-loop-i l =
    (length l.marks ≡ length l.initial.marks)
    × (edge_pass l.own (edges_at l.strip l.at l.n) l.initial.marks ≡ edge_pass l.own (edges_at l.strip (l.at + 6 * l.i) (l.n - l.i)) l.marks)
