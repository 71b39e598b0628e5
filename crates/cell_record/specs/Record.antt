-- The cell's record by value and the head of the cell that it stands for: floats there, their bits here. Definitions only.
use Rattle.std.specs.Float.{binary32}
use Rattle.std.specs.Float.Ieee.{to_bits}
use Rattle.math.specs.declared.vec3.Vec3.{Vec3 as Floats}
use Rattle.quantise.specs.declared.short.Frame.{Frame}
use Rattle.quarters.specs.declared.bounds.Aabb.{Aabb}
use Rattle.strip.specs.Cell.{Vec3, Head}
use Rattle.cell_record.specs.declared.CellRecord.{CellRecord}
use Rattle.cell_record.specs.Floats.{floats}

abbrev pub bits : Floats → Vec3
bits v = record { x = to_bits binary32 v.x; y = to_bits binary32 v.y; z = to_bits binary32 v.z }

-- the record of a head, and the head of a record
unfoldable pub record_of : Head → CellRecord
record_of h = record {
  content_flags = h.content;
  area_id = h.area;
  version_unk2 = h.version;
  vft = h.vft;
  bb_min = floats h.bb_min;
  bb_max = floats h.bb_max;
  bb_size = floats h.bb_size;
}

unfoldable pub head_by : CellRecord → Head
head_by r = record {
  content = r.content_flags;
  area = r.area_id;
  version = r.version_unk2;
  vft = r.vft;
  bb_min = bits r.bb_min;
  bb_max = bits r.bb_max;
  bb_size = bits r.bb_size;
}

-- the box from bb_min to bb_max
abbrev pub root_in : CellRecord → Aabb
root_in r = record { min = r.bb_min; max = r.bb_max }

-- the box in which shorts are measured
abbrev pub frame_in : CellRecord → Frame
frame_in r = record { bb_min = r.bb_min; bb_size = r.bb_size }
