-- Three floats from their bits. Definitions only.
use Rattle.std.specs.Float.{binary32}
use Rattle.std.specs.Float.Ieee.{of_bits}
use Rattle.math.specs.declared.vec3.Vec3.{Vec3 as Floats}
use Rattle.strip.specs.Cell.{Vec3}

-- three floats from their bits, and their bits
abbrev pub floats : Vec3 → Floats
floats v = record { x = of_bits binary32 v.x; y = of_bits binary32 v.y; z = of_bits binary32 v.z }
