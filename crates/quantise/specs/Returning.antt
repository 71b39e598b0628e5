-- The axes on which a short that becomes a coordinate returns: the hypothesis of the theorem `short_coordinate`. Definitions only.
use Rattle.std.specs.Prelude.{Bool, true, false, cond, ◌&&◌, ◌+◌, ◌*◌, leb, Float}
use Rattle.std.specs.Float.{nan, inf, fin}
use Rattle.std.specs.Float.Ieee.{up, down}

-- by the exact values: extent is from 128 to 4096, lo is not below -16384, and lo + extent not above 16384.
-- (A negative lo and an extent up to 4096 come to less than that. A lo that is not negative comes to more than -16384.)
unfoldable pub returning : Float → Float → Bool
returning nan extent = false
returning (inf s) extent = false
returning (fin s m e) nan = false
returning (fin s m e) (inf t) = false
returning (fin s m e) (fin true n d) = false
returning (fin s m e) (fin false n d) =
    leb (128 * down d) (n * up d) && leb (n * up d) (4096 * down d)
    && cond s (leb (m * up e) (16384 * down e)) (leb (m * up e * down d + n * up d * down e) (16384 * (down e * down d)))
