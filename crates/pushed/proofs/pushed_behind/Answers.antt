-- `pushed::pushed_behind` meets its contract: the sum over two lists is that of their sums. Assumes nothing.
use Prim.Native.Nat.{◌+◌, ◌*◌}
use native.Mathlib.Omega.{arith}
use Rattle.strip.specs.Rows.{portals_at, points_at}
use Rattle.pushed.specs.Pushed.{ends_of, places_of}
use Rattle.pushed.proofs.Sums.{pushed_append}
use Rattle.pushed.proofs.pushed_behind.Goals as goal

pub returns : goal.returns
returns c =
    let a = c.args in
    let s = a.strip.now in
    let portals = ends_of (portals_at s a.first a.portals) in
    let points = places_of (points_at s (a.first + 11 * a.portals) a.points) in
    record {
      count = omega (arith, pushed_append a.frame.bb_min a.frame.bb_size portals points, c.pushed_ends-ends.ensures.count, c.pushed_places.ensures.count);
      bound = omega arith;
    }
