-- `put_points` meets its contract. The loop's invariant: what is left to write, stored from here on, gives what is promised.
use Prim.Native.Nat.{◌+◌, ◌-◌, ◌*◌}
use mathlib.Core.Path.{◌≡◌}
use lib.ListN.{drop}
use Rattle.fields.specs.Bytes.{cut}
use Rattle.fields.specs.Put.{put}
use Rattle.read_points.specs.Write.{as_shorts, points_words}
use Rattle.read_points.proofs.put_points.Given as goal

abbrev pub invariant-loop-i : goal.invariant-loop-i
invariant-loop-i l =
    put (l.at + 4 * l.i) (points_words as_shorts (cut 8 (l.n - l.i) (drop (8 * l.i) l.points))) l.strip
    ≡ put l.at (points_words as_shorts (cut 8 l.n l.points)) l.initial.strip
