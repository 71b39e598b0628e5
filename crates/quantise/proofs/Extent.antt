-- The test of a small extent: std's `abs` is the magnitude. Assumes nothing.
use Rattle.std.proofs.Common.{◌≡◌, false, refl}
use Rattle.std.specs.Float.{float_with_sign}
use lib.Ieee.{Float, nan, inf, fin}
use Rattle.quantise.specs.Short.{magnitude}

pub abs_magnitude : (x : Float) → float_with_sign false x ≡ magnitude x
unfolding float_with_sign
abs_magnitude nan = refl
abs_magnitude (inf s) = refl
abs_magnitude (fin s m e) = refl
