-- What is said of the sides of a coordinate's cells: where they stand, exactly, whose the low one is, and that the high one is the next one's low. Definitions only.
use Rattle.std.specs.Prelude.{◌≡◌, ℕ, suc, ◌+◌, ◌*◌, true, false, Float}
use Rattle.std.specs.Float.{nan, inf, fin}
use Rattle.std.specs.Float.Ieee.{up, down}
use Rattle.cell_grid.specs.Grid.{coordinate, low_side, high_side}

-- x is 150 * c - 6000
abbrev pub IsSide : Float → ℕ → Type 0
IsSide nan c = ⊥
IsSide (inf s) c = ⊥
IsSide (fin true m e) c = m * up e + 150 * c * down e ≡ 6000 * down e
IsSide (fin false m e) c = m * up e + 6000 * down e ≡ 150 * c * down e

pub record Sides (c : ℕ) : Type 0 where
  pub low : IsSide (low_side c) c
  pub high : IsSide (high_side c) (suc c)
  pub own : coordinate (low_side c) ≡ c
  pub next : high_side c ≡ low_side (suc c)
