-- What a finite box says of each of its words. Definitions only.
use Rattle.std.specs.Prelude.{◌≡◌, true}
use Rattle.strip.specs.Cell.{Vec3, Head}
use Rattle.strip.specs.Box.{finite_bits}

-- three words that are the bits of neither an infinity nor a NaN
pub record FiniteVec (v : Vec3) : Type 0 where
  pub x : finite_bits v.x ≡ true
  pub y : finite_bits v.y ≡ true
  pub z : finite_bits v.z ≡ true

pub record FiniteBox (h : Head) : Type 0 where
  pub bb_min : FiniteVec h.bb_min
  pub bb_max : FiniteVec h.bb_max
  pub bb_size : FiniteVec h.bb_size
