-- Document 01, module 2: short numbers, over the logic's account of IEEE 754. Definitions only.
-- An axis is given by its lo and its extent; what is turned stands before them: `short a lo extent`, `coordinate q lo extent`.
use Rattle.std.specs.Prelude.{ℕ, ◌+◌, ◌*◌, ◌/◌, Bool, false, cond, not, ◌&&◌, ◌||◌, pos, negsuc, Float}
use Rattle.std.specs.Float.{nan, inf, fin, binary32}
use Rattle.std.specs.Float.Ieee.{up, down, add, sub, mul, div, lt, of_int, is_nan}
use Rattle.math.specs.declared.vec3.Vec3.{Vec3}
use Rattle.quantise.specs.declared.short.Shorts.{Shorts}

-- 0, 1, 65535 and 2 ^ -23
abbrev pub nought : Float
nought = fin false 0 (pos 0)

abbrev pub unit : Float
unit = fin false 1 (pos 0)

abbrev pub most : Float
most = fin false 65535 (pos 0)

abbrev pub least : Float
least = fin false 1 (negsuc 22)

-- x without its sign
abbrev pub magnitude : Float → Float
magnitude nan = nan
magnitude (inf s) = inf false
magnitude (fin s m e) = fin false m e

-- how far along its axis a stands: (a - lo) / extent
unfoldable pub fraction : Float → Float → Float → Float
fraction a lo extent = div binary32 (sub binary32 a lo) extent

-- t brought to 0..1. A NaN stays one.
unfoldable pub clamped : Float → Float
clamped t = cond (lt t nought) nought (cond (lt unit t) unit t)

-- n / d to the nearest whole number, halves up, which is away from zero. It is the exact fraction that is rounded.
abbrev pub nearest_whole : ℕ → ℕ → ℕ
nearest_whole n d = (2 * n + d) / (2 * d)

-- x, which is not negative, to the nearest whole number, halves away from zero. NaN gives 0. (An infinity does not come here, since a fraction is clamped first.)
unfoldable pub nearest_number : Float → ℕ
nearest_number nan = 0
nearest_number (inf s) = 0
nearest_number (fin s m e) = nearest_whole (m * up e) (down e)

-- The short of a on an axis: an extent below 2 ^ -23 in magnitude gives 0; otherwise the fraction, clamped to 0..1, times 65535, to the nearest.
unfoldable pub short : Float → Float → Float → ℕ
unfolding fraction clamped nearest_number
short a lo extent = cond (lt (magnitude extent) least) 0 (nearest_number (mul binary32 (clamped (fraction a lo extent)) most))

-- Document 02, No. 6: "whether the fraction was below 0, above 1 or a NaN. Negative zero is inside", as it isn't below 0
unfoldable pub beyond : Float → Bool
beyond t = lt t nought || lt unit t || is_nan t

-- whether a coordinate is outside its box on an axis. "an extent under 2^-23 in magnitude never counts"
unfoldable pub outside : Float → Float → Float → Bool
unfolding fraction beyond
outside a lo extent = not (lt (magnitude extent) least) && beyond (fraction a lo extent)

-- and back: lo + q / 65535 * extent
unfoldable pub coordinate : ℕ → Float → Float → Float
coordinate q lo extent = add binary32 lo (mul binary32 (div binary32 (of_int binary32 (pos q)) most) extent)

-- by axis, lo from bb_min and extent from bb_size
abbrev pub shorts : Vec3 → Vec3 → Vec3 → Shorts
shorts v bb-min bb-size =
    record { x = short v.x bb-min.x bb-size.x; y = short v.y bb-min.y bb-size.y; z = short v.z bb-min.z bb-size.z }

-- "counted coordinate by coordinate": how many of the three are outside
unfoldable pub outside_count : Vec3 → Vec3 → Vec3 → ℕ
unfolding outside
outside_count v bb-min bb-size =
    cond (outside v.x bb-min.x bb-size.x) 1 0 + cond (outside v.y bb-min.y bb-size.y) 1 0 + cond (outside v.z bb-min.z bb-size.z) 1 0
