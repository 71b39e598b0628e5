-- The grid: 100 by 100 cells of 150 from -6000, over the logic's account of IEEE 754, each step rounded as it stands there. Definitions only.
use Rattle.std.specs.Prelude.{ℕ, ◌*◌, ◌/◌, min, true, false, cond, ◌&&◌, [], pos, nat_le, Float}
use Rattle.std.specs.Float.{nan, inf, fin, binary32}
use Rattle.std.specs.Float.Ieee.{up, down, add, sub, mul, div, of_int}
use Rattle.strip.specs.Outcome.{Outcome, refused, done}
use Rattle.cell_grid.specs.declared.CellXY.{CellXY}
use Rattle.cell_grid.specs.declared.CellBounds.{CellBounds}

-- 150 and -6000, each an odd number times a power of 2
abbrev pub cell_size : Float
cell_size = fin false 75 (pos 1)

abbrev pub cell_origin : Float
cell_origin = fin true 375 (pos 4)

-- the greatest whole number not above t, brought to 0..99; a NaN gives 0
unfoldable pub in_grid : Float → ℕ
in_grid nan = 0
in_grid (inf s) = cond s 0 99
in_grid (fin s m e) = cond s 0 (min (m * up e / down e) 99)

-- by axis: (x - origin) / size, two steps
unfoldable pub coordinate : Float → ℕ
unfolding in_grid
coordinate x = in_grid (div binary32 (sub binary32 x cell_origin) cell_size)

abbrev pub cell_at : Float → Float → CellXY
cell_at x y = record { x = coordinate x; y = coordinate y }

-- the sides of the cells of a coordinate: origin + c * size, and size more
unfoldable pub low_side : ℕ → Float
low_side c = add binary32 cell_origin (mul binary32 (of_int binary32 (pos c)) cell_size)

unfoldable pub high_side : ℕ → Float
unfolding low_side
high_side c = add binary32 (low_side c) cell_size

abbrev pub bounds_of : ℕ → ℕ → CellBounds
bounds_of cx cy = record { x0 = low_side cx; y0 = low_side cy; x1 = high_side cx; y1 = high_side cy }

-- what `cell_bounds` has to decide
unfoldable pub bounds_outcome : ℕ → ℕ → Outcome CellBounds
bounds_outcome cx cy = cond (nat_le cx 99 && nat_le cy 99) (done (bounds_of cx cy) []) (refused 5 0)
