-- Cells of the grid that share a side, by the sides that `cell_bounds` gives, and the cell of an area. Definitions only.
use Rattle.std.specs.Prelude.{ℕ, ◌/◌, ◌%◌, ◌≡◌, ◌≢◌, Float}
use Rattle.cell_grid.specs.declared.CellBounds.{CellBounds}
use Rattle.cell_grid.specs.Grid.{bounds_of}

-- the sides of a cell, and the line that each is, from corner to corner
pub data Side : Type 0 where
  west east south north : Side

pub record Line : Type 0 where
  pub x0 : Float
  pub y0 : Float
  pub x1 : Float
  pub y1 : Float

abbrev pub line_of : CellBounds → Side → Line
line_of b west = record { x0 = b.x0; y0 = b.y0; x1 = b.x0; y1 = b.y1 }
line_of b east = record { x0 = b.x1; y0 = b.y0; x1 = b.x1; y1 = b.y1 }
line_of b south = record { x0 = b.x0; y0 = b.y0; x1 = b.x1; y1 = b.y0 }
line_of b north = record { x0 = b.x0; y0 = b.y1; x1 = b.x1; y1 = b.y1 }

-- they are two cells, and a side of the one is a side of the other
pub record ShareSide (b c : CellBounds) : Type 0 where
  pub own : Side
  pub other : Side
  pub same : line_of b own ≡ line_of c other
  pub two : b ≢ c

-- an area is y * 100 + x
abbrev pub cell_of : ℕ → CellBounds
cell_of a = bounds_of (a % 100) (a / 100)
