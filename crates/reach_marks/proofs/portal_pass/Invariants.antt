-- `reach_marks::portal_pass` meets its contract. The invariant: the portals that are left make of the marks what all of them make of the first ones.
use Prim.Native.Nat.{◌+◌, ◌-◌, ◌*◌}
use lib.ListN.{length}
use mathlib.Core.Path.{◌≡◌}
use Rattle.strip.specs.Rows.{portals_at}
use Rattle.reach_marks.specs.Marks.{portal_pass}
use Rattle.reach_marks.proofs.portal_pass.Given as goal

abbrev pub invariant-loop-i : goal.invariant-loop-i
invariant-loop-i l =
    (length l.marks ≡ length l.initial.marks)
    × (portal_pass l.own (portals_at l.strip l.at l.n) l.initial.marks ≡ portal_pass l.own (portals_at l.strip (l.at + 11 * l.i) (l.n - l.i)) l.marks)
