-- Cases that a near miss gets wrong, computed from the definitions.
use mathlib.Core.Path.{◌≡◌, refl}
use mathlib.Core.Bool.{true, false}
use lib.IntN.{pos, negsuc}
use lib.Ieee.{nan, fin, binary32, add, sub, div, mul, lt, of_bits, of_int, is_nan}
use Rattle.quantise.specs.Short.{short, coordinate, fraction, clamped, nearest_number, nought, unit, beyond, outside}

pub record Cases : Type 0 where
  -- the product is rounded to an f32 before it is rounded to a whole number: exactly it is below a half, and as an f32 it is a half
  pub product : short (of_bits binary32 0x3700_0080) nought unit ≡ 1
  -- the greatest f32 below a half is nearest to 0, though with a half added it comes to 1
  pub half : (nearest_number (of_bits binary32 0x3eff_ffff) ≡ 0) × (add binary32 (of_bits binary32 0x3eff_ffff) (fin false 1 (negsuc 0)) ≡ unit)
  -- a negative extent mirrors the axis
  pub mirrored : (short (fin false 5 (pos 0)) nought (fin true 1 (pos 0)) ≡ 0) × (short (fin true 5 (pos 0)) nought (fin true 1 (pos 0)) ≡ 65535)
  -- below lo by so little that the fraction is -0: inside. It is the fraction that is looked at
  pub minus_nought : outside (fin true 1 (negsuc 148)) nought (fin false 4096 (pos 0)) ≡ false
  -- one f32 below lo and one above the other end: outside. Both ends: inside
  pub ends : (outside (fin true 1 (negsuc 22)) nought unit ≡ true) × (outside (of_bits binary32 0x3f80_0001) nought unit ≡ true)
      × (outside nought nought unit ≡ false) × (outside unit nought unit ≡ false)
  -- a NaN: outside, but not where the extent is small
  pub no_number : (outside nan nought unit ≡ true) × (outside nan nought (fin false 1 (negsuc 23)) ≡ false)
  -- what reading makes of 65535 may lie beyond the box by the least step, and then counts when it is saved again
  pub read_back : outside (coordinate 65535 (of_bits binary32 0xc649_dfdf) (of_bits binary32 0x4562_c837)) (of_bits binary32 0xc649_dfdf) (of_bits binary32 0x4562_c837) ≡ true

pub cases : Cases
unfolding short fraction add sub div mul lt clamped nearest_number of_bits is_nan beyond outside coordinate of_int
cases =
    record {
      product = refl;
      half = (refl, refl);
      mirrored = (refl, refl);
      minus_nought = refl;
      ends = (refl, refl, refl, refl);
      no_number = (refl, refl);
      read_back = refl;
    }
