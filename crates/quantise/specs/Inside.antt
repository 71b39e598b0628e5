-- What it means that a coordinate is not pushed to the border: the other side of `outside`, in the words of document 02, No. 6. Definitions only.
use Rattle.std.specs.Prelude.{◌≡◌, true, ◌⊎◌, Float}
use Rattle.std.specs.Float.Ieee.{lt, le}
use Rattle.math.specs.declared.vec3.Vec3.{Vec3}
use Rattle.quantise.specs.Short.{nought, unit, least, magnitude, fraction}

-- the fraction is a number in 0..1 (no NaN is at least 0), or the extent is under 2 ^ -23 in magnitude
abbrev pub Inside : Float → Float → Float → Type 0
Inside a lo extent = (lt (magnitude extent) least ≡ true) ⊎ ((le nought (fraction a lo extent) ≡ true) × (le (fraction a lo extent) unit ≡ true))

-- on every axis
abbrev pub InsideBox : Vec3 → Vec3 → Vec3 → Type 0
InsideBox v bb-min bb-size =
    Inside v.x bb-min.x bb-size.x × Inside v.y bb-min.y bb-size.y × Inside v.z bb-min.z bb-size.z
