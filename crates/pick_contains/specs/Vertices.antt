-- What the functions make: a vertex by its place in the strip and its y, and its spot on two axes. Only their contracts use this. Definitions only.
use Rattle.std.specs.Prelude.{ℕ, List}
use Rattle.std.specs.Float.{binary32}
use Rattle.std.specs.Float.Ieee.{of_bits}
use Rattle.quantise.specs.Short.{short}
use Rattle.strip.specs.Cell.{Vec3}
use Rattle.strip.specs.Reading.{word}
use Rattle.pick_contains.specs.declared.Spot.{Spot}
use Rattle.pick_contains.specs.declared.Axis.{Axis}
use Rattle.pick_contains.specs.declared.Vertex.{Vertex}

-- the short of a coordinate's bits on an axis
abbrev pub short_on : Axis → ℕ → ℕ
short_on a w = short (of_bits binary32 w) a.lo a.extent

-- the spot of a vertex on the axes x and y
abbrev pub spot_on : (x y : Axis) → Vec3 → Spot
spot_on x y v = record { x = short_on x v.x; y = short_on y v.y }

abbrev pub vertex_spot : List ℕ → Axis → Vertex → Spot
vertex_spot strip x v = record { x = short_on x (word strip v.at); y = v.y }
