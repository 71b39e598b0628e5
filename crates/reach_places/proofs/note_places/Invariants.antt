-- `reach_places::note_places` meets its contract. The invariant: the entries so far have the places of their polygons.
use Rattle.std.proofs.Common.{◌≡◌, ◌*◌, ◌≤◌, length}
use Rattle.reach_places.proofs.Walk.{Filling}
use Rattle.reach_places.proofs.note_places.Given as goal

abbrev pub invariant-loop-k : goal.invariant-loop-k
invariant-loop-k l = (1 ≤ l.stride) × (l.n ≤ l.stride * l.room) × (l.room ≡ length l.places) × Filling l.strip l.n l.stride l.places l.at l.k
