-- One choice of `Vec3::min` and `Vec3::max` by coordinate: a NaN loses to a number, otherwise the lesser or greater. Definitions only.
use Rattle.std.specs.Prelude.{Bool, cond, is_nan, Float}
use Rattle.std.specs.Float.Ieee.{lt}

-- One choice, for equations about what no zero's sign shows in: b where a is a NaN or b is before a, and a otherwise.
abbrev pub chosen : (Float → Float → Bool) → Float → Float → Float
chosen before a b = cond (is_nan a) b (cond (before b a) b a)

-- above
abbrev pub gt : Float → Float → Bool
gt x y = lt y x

unfoldable pub lesser : Float → Float → Float
lesser a b = chosen lt a b

unfoldable pub greater : Float → Float → Float
greater a b = chosen gt a b
