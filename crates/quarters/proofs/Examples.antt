-- A case that a near miss gets wrong, computed from the definitions.
use Rattle.std.proofs.Common.{◌≡◌, [], ◌∷◌, pos, negsuc, refl}
use lib.Ieee.{of_bits}
use Rattle.quarters.specs.Bounds.{least_side, greatest_side}
use Rattle.quarters.proofs.Sweep.{nan_sides}

-- the axis of a polygon with NaN only
pub nans : (least_side (0x7fc0_0000 ∷ 0xff80_0001 ∷ 0x7f80_0001 ∷ []) ≡ pos 32767) × (greatest_side (0x7fc0_0000 ∷ 0xff80_0001 ∷ 0x7f80_0001 ∷ []) ≡ negsuc 32767)
unfolding of_bits
nans = nan_sides (0x7fc0_0000 ∷ 0xff80_0001 ∷ 0x7f80_0001 ∷ []) (refl, (refl, (refl, tt)))
