-- What the private steps of the code return, where that is more than the promises say. No promise of an exported function cites these. Definitions only.
use Rattle.std.specs.Prelude.{ℕ, ◌*◌, min, cond, Float}
use Rattle.std.specs.Float.{nan, inf, fin}
use Rattle.std.specs.Float.Ieee.{up, down, lt}
use Rattle.quantise.specs.Short.{nearest_whole, unit}

-- Rust's `x.round() as u16`: halves away from zero, cut to 16 unsigned bits, and 0 for a NaN
unfoldable pub rounded_u16 : Float → ℕ
rounded_u16 nan = 0
rounded_u16 (inf s) = cond s 0 65535
rounded_u16 (fin s m e) = cond s 0 (min (nearest_whole (m * up e) (down e)) 65535)

-- the short of a fraction that is beyond: 65535 above 1, and otherwise, below 0 or a NaN, 0
abbrev pub border_of : Float → ℕ
border_of t = cond (lt unit t) 65535 0
