-- `write_polygons::put_records` meets its contract: a turn stores one record.
use Rattle.std.proofs.Common.{◌≡◌, ◌+◌, ◌-◌, ◌<◌, refl, arith}
use native.Mathlib.Nat.{sub-zero}
use Rattle.write_polygons.proofs.Records.{recording, recording_room, recording_turn, recorded, recorded_past}
use Rattle.write_polygons.proofs.put_records.Goals as goal
use Rattle.write_polygons.proofs.put_records.Goals.{In-loop}

-- a turn has a record that is left
some : (c : In-loop) → 0 < c.args.m - c.loop.counter
some c = omega arith

pub loop-init : goal.loop-init
loop-init c = rw sub-zero (recording _ _ _ _ _ _ _ c.requires.0)

pub poly_at-p-requires : goal.poly_at-p-requires
poly_at-p-requires c = omega (arith, (recording_room _ _ _ _ _ _ _ _ _ _ _ c.loop.invariant (some c) _ refl).inside)

pub behind_polygon-after-requires : goal.behind_polygon-after-requires
behind_polygon-after-requires c =
    let q = (recording_room _ _ _ _ _ _ _ _ _ _ _ c.loop.invariant (some (goal.at.behind_polygon-after-requires c).In-loop) _ c.poly_at-p.ensures).sums in
    (omega (arith, q, c.well_formed), omega (arith, q, c.well_formed), omega (arith, q, c.well_formed))

pub put_polygon-requires : goal.put_polygon-requires
put_polygon-requires c =
    let q = recording_room _ _ _ _ _ _ _ _ _ _ _ c.loop.invariant (some (goal.at.put_polygon-requires c).In-loop) _ c.poly_at-p.ensures in
    (q.flags, q.sides)

pub overflow_add-to : goal.overflow_add-to
overflow_add-to c =
    omega (arith, (recording_room _ _ _ _ _ _ _ _ _ _ _ c.loop.invariant (some (goal.at.overflow_add-to c).In-loop) _ c.poly_at-p.ensures).bytes, c.requires.1)

pub loop-preserved : goal.loop-preserved
loop-preserved c =
    let left : c.args.m - (c.loop.counter + 1) ≡ c.args.m - c.loop.counter - 1 = omega arith in
    rw (c.behind_polygon-after.ensures, left)
    (recording_turn _ _ _ _ _ _ _ _ _ _ _ c.loop.invariant (some (goal.at.loop-preserved c).In-loop) _ c.poly_at-p.ensures _ c.put_polygon.ensures)

pub returns : goal.returns
returns c =
    record {
      cursor = recorded_past _ _ _ _ _ _ _ _ _ _ _ c.loop.invariant (omega arith);
      stored = recorded _ _ _ _ _ _ _ _ _ _ _ c.loop.invariant (omega arith);
    }
