-- What `Vec3::min` and `Vec3::max` promise by coordinate: one of the two, not beyond either; which zero is free. Definitions only.
use Rattle.std.specs.Prelude.{◌≡◌, zero, suc, Bool, false, not, T, ◌⊎◌, is_nan, Float}
use Rattle.std.specs.Float.{nan, inf, fin}
use Rattle.std.specs.Float.Ieee.{le}

-- r is one of a and b, and not after either that is a number. So it is a NaN only where both are, and of two zeros it is either one.
pub record Picked (under : Float → Float → Bool) (a b r : Float) : Type 0 where
  pub picked : (r ≡ a) ⊎ (r ≡ b)
  pub left : T (not (is_nan a)) → T (under r a)
  pub right : T (not (is_nan b)) → T (under r b)

-- at or above
abbrev pub ge : Float → Float → Bool
ge x y = le y x

abbrev pub IsMin : Float → Float → Float → Type 0
IsMin a b r = Picked le a b r

abbrev pub IsMax : Float → Float → Float → Type 0
IsMax a b r = Picked ge a b r

-- x, a zero without its sign: all that is fixed of such an r
abbrev pub plain : Float → Float
plain nan = nan
plain (inf s) = inf s
plain (fin s zero e) = fin false zero e
plain (fin s (suc m) e) = fin s (suc m) e
