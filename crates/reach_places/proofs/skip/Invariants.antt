-- `reach_places::skip` meets its contract. The invariant: the polygons that are left, from `place` on, end where all of them do.
use Prim.Native.Nat.{◌-◌}
use mathlib.Core.Path.{◌≡◌}
use Rattle.strip.specs.Rows.{after_polygons}
use Rattle.reach_places.proofs.skip.Given as goal

abbrev pub invariant-loop : goal.invariant-loop
invariant-loop l = after_polygons l.strip l.at l.n ≡ after_polygons l.strip l.place (l.n - l.counter)
