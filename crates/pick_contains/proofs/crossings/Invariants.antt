-- The sides crossed are the count and those crossed of what is left, from `last` to the vertex at i and on.
use Prim.Native.Nat.{◌+◌, ◌-◌, ◌*◌, ◌≤◌, ◌<◌}
use lib.ListN.{length}
use mathlib.Core.Path.{◌≡◌}
use mathlib.Core.List.{map}
use Rattle.strip.specs.Reading.{vecs_at}
use Rattle.pick_contains.specs.Inside.{crossings}
use Rattle.pick_contains.specs.Vertices.{spot_on, vertex_spot}
use Rattle.pick_contains.proofs.crossings.Given as goal

abbrev pub invariant-loop-i : goal.invariant-loop-i
invariant-loop-i l =
    (l.last.at < length l.strip) × (l.count ≤ l.i)
    × (crossings l.s (vertex_spot l.strip l.x l.initial.last) (map (spot_on l.x l.y) (vecs_at l.strip l.at l.n))
    ≡ l.count + crossings l.s (vertex_spot l.strip l.x l.last) (map (spot_on l.x l.y) (vecs_at l.strip (l.at + 3 * l.i) (l.n - l.i))))
