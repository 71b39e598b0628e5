-- The words that the values of the two calls make for C. Definitions only.
use Rattle.std.specs.Prelude.{ℕ, List, [], ◌∷◌, to_bits}
use Rattle.std.specs.Float.{binary32}
use Rattle.answers.specs.Words.{filled}
use Rattle.cell_grid.specs.declared.CellXY.{CellXY}
use Rattle.cell_grid.specs.declared.CellBounds.{CellBounds}

abbrev pub cell_words : CellXY → List ℕ
cell_words c = filled (c.x ∷ c.y ∷ [])

abbrev pub bounds_words : CellBounds → List ℕ
bounds_words b = filled (to_bits binary32 b.x0 ∷ to_bits binary32 b.y0 ∷ to_bits binary32 b.x1 ∷ to_bits binary32 b.y1 ∷ [])
