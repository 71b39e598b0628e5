-- Document 01, module 3: the quarter box, over the exact value of a float. Definitions only.
use Rattle.std.specs.Prelude.{ℕ, ◌+◌, ◌-◌, ◌*◌, ◌/◌, min, Bool, true, false, cond, ℤ, pos, negsuc, neg_ℤ, Float}
use Rattle.std.specs.Float.{nan, inf, fin}
use Rattle.std.specs.Float.Ieee.{up, down}
use Rattle.math.specs.declared.vec3.Vec3.{Vec3}
use Rattle.quarters.specs.declared.quarter.QuarterBox.{QuarterBox}

-- n / d rounded up where `ceil` is true, and down where it is not
abbrev pub rounded : Bool → ℕ → ℕ → ℕ
rounded ceil n d = cond ceil ((n + (d - 1)) / d) (n / d)

-- ±n / d, negative where s is true, to the least whole number not below it (`ceil`), or to the greatest not above it
abbrev pub whole_number : Bool → Bool → ℕ → ℕ → ℤ
whole_number ceil false n d = pos (rounded ceil n d)
whole_number true true n d = neg_ℤ (pos (rounded false n d))
whole_number false true n d = neg_ℤ (pos (rounded true n d))

-- to the nearest of 16 signed bits
abbrev pub saturated : ℤ → ℤ
saturated (pos n) = pos (min n 32767)
saturated (negsuc n) = negsuc (min n 32767)

-- the floor or the ceiling of 4 * x, saturated to 16 signed bits, NaN 0
unfoldable pub side : Bool → Float → ℤ
side ceil nan = pos 0
side ceil (inf s) = cond s (negsuc 32767) (pos 32767)
side ceil (fin s m e) = saturated (whole_number ceil s (4 * (m * up e)) (down e))

abbrev pub quarter_floor : Float → ℤ
quarter_floor x = side false x

abbrev pub quarter_ceil : Float → ℤ
quarter_ceil x = side true x

-- for x, y, z in turn floor of 4 * min, ceiling of 4 * max
abbrev pub quarter_box : Vec3 → Vec3 → QuarterBox
quarter_box min max = record {
  x_min = quarter_floor min.x;
  x_max = quarter_ceil max.x;
  y_min = quarter_floor min.y;
  y_max = quarter_ceil max.y;
  z_min = quarter_floor min.z;
  z_max = quarter_ceil max.z;
}

-- a number of 16 signed bits as those bits
abbrev pub bits16 : ℤ → ℕ
bits16 (pos n) = n
bits16 (negsuc n) = 65535 - n
