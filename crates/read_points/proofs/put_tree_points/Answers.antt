-- `put_tree_points` meets its contract: the points stand with their shorts, which have 16 bits, and all are turned back.
use native.Mathlib.Omega.{arith}
use mathlib.Core.Path.{refl}
use Rattle.read_points.proofs.Shorts.{walk_shorts}
use Rattle.read_points.proofs.Turned.{count_is, turn_fits, next_is, all_turned}
use Rattle.read_points.proofs.put_tree_points.Goals as goal

pub overflow_sub-next : goal.overflow_sub-next
overflow_sub-next c = let e = count_is c.requires c.put_sector-next.ensures in omega arith

pub turn_points-requires : goal.turn_points-requires
turn_points-requires c = turn_fits c.requires c.put_sector-next.ensures _ refl c.put_sector-next.auto.strip

pub returns : goal.returns
returns c =
    let a = c.args in
    let f = c.requires in
    let t = c.put_sector-next.ensures in
    let q = walk_shorts a.reader.system.now a.reader.graphics.now c.bytes_known.ensures c.bytes_known-2.ensures 4096 _ f.is in
    record {
      next = next_is f t;
      content = all_turned f t _ _ _ q refl (rw c.frame.ensures at c.turn_points.ensures);
    }
