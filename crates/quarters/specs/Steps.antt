-- What the private steps of the code return, where that is more than the promises say. No promise of an exported function cites these. Definitions only.
use Rattle.std.specs.Prelude.{ℕ, ◌*◌, min, Bool, cond, Float}
use Rattle.std.specs.Float.{nan, inf, fin}
use Rattle.std.specs.Float.Ieee.{up, down}
use Rattle.quarters.specs.Quarter.{rounded}

-- A side for an x that is not negative, as a natural number and cut to 32768, which is past either end of the range. 0 for a negative x.
unfoldable pub quarters : Bool → Float → ℕ
quarters ceil nan = 0
quarters ceil (inf s) = cond s 0 32768
quarters ceil (fin s m e) = cond s 0 (min (rounded ceil (4 * (m * up e)) (down e)) 32768)
