-- `read_polygon_sides::put_near` meets its contract. The loop's invariant is `Near`, up to index k.
use Prim.Native.Nat.{◌-◌}
use Rattle.read_records.specs.Back.{back_by}
use Rattle.read_polygon_sides.specs.Sides.{Near}
use Rattle.read_polygon_sides.proofs.put_near.Given as goal

abbrev pub invariant-loop-k : goal.invariant-loop-k
invariant-loop-k l = Near (back_by l.frame.bb_min l.frame.bb_size) l.part l.first l.count l.run l.from l.n l.at l.initial.out l.k l.out

abbrev pub decreases-loop-k : goal.decreases-loop-k
decreases-loop-k l = l.n - l.k
