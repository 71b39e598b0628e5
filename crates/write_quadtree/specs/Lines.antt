-- The sides of a box's 16 leaves, axis by axis, and the first leaf by the ranges that a point is in. Definitions only.
use Rattle.std.specs.Prelude.{ℕ, suc, Bool, cond, ◌&&◌, List, [], ◌∷◌, ◌++◌, Float}
use Rattle.quarters.specs.declared.bounds.Aabb.{Aabb}
use Rattle.write_pages.specs.Sectors.{middle, between}
use Rattle.write_quadtree.specs.declared.boxes.AxisLines.{AxisLines}
use Rattle.write_quadtree.specs.declared.boxes.Lines.{Lines}
use Rattle.write_quadtree.specs.declared.boxes.Ranges.{Ranges}

abbrev pub axis_lines : (lo hi : Float) → AxisLines
axis_lines lo hi = record {
  a0 = lo;
  a1 = middle lo (middle lo hi);
  a2 = middle lo hi;
  a3 = middle (middle lo hi) hi;
  a4 = hi;
}

abbrev pub lines_of : Aabb → Lines
lines_of b = record { x = axis_lines b.min.x b.max.x; y = axis_lines b.min.y b.max.y }

abbrev pub ranges_of : AxisLines → Float → Ranges
ranges_of a x = record {
  r0 = between a.a0 x a.a1;
  r1 = between a.a1 x a.a2;
  r2 = between a.a2 x a.a3;
  r3 = between a.a3 x a.a4;
}

-- the number of the first test that passes; their count where none does
unfoldable pub first_of : List Bool → ℕ
first_of [] = 0
first_of (t ∷ ts) = cond t 0 (suc (first_of ts))

-- the tests of four subs, by the lower and the upper range of each axis
abbrev pub subs_of : (xLow xHigh yLow yHigh : Bool) → List Bool
subs_of xLow xHigh yLow yHigh = (xHigh && yHigh) ∷ (xHigh && yLow) ∷ (xLow && yLow) ∷ (xLow && yHigh) ∷ []

-- of 16 leaves
abbrev pub leaves_of : (x y : Ranges) → List Bool
leaves_of x y =
    subs_of x.r2 x.r3 y.r2 y.r3
    ++ (subs_of x.r2 x.r3 y.r0 y.r1 ++ (subs_of x.r0 x.r1 y.r0 y.r1 ++ subs_of x.r0 x.r1 y.r2 y.r3))
