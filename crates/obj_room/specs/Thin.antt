-- Which polygon has no drawing (document 02, No. 3). Definitions only.
use Rattle.std.specs.Prelude.{Bool, ltb, length}
use Rattle.strip.specs.Cell.{NavPoly}

-- "a polygon with fewer than 3 vertices"
abbrev pub is_thin : NavPoly → Bool
is_thin p = ltb (length p.vertices) 3
