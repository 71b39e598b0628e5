-- Boxes whose numbers are words of 32 bits, as every `&[u32]` holds them. Definitions only.
use Rattle.std.specs.Prelude.{◌^◌, ◌<◌}
use Rattle.strip.specs.Cell.{Vec3, Head}

-- the words of a vector, and of a box
pub record WordVec (v : Vec3) : Type 0 where
  pub x : v.x < 2 ^ 32
  pub y : v.y < 2 ^ 32
  pub z : v.z < 2 ^ 32

pub record WordBox (h : Head) : Type 0 where
  pub bb_min : WordVec h.bb_min
  pub bb_max : WordVec h.bb_max
  pub bb_size : WordVec h.bb_size
