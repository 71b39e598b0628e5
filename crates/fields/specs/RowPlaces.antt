-- Where a field stands in its row. Definitions only.
use Rattle.std.specs.Prelude.{ℕ, zero, suc, ◌+◌, ◌-◌, cond, List, [], ◌∷◌, leb}

-- how wide it is in all
abbrev pub row_size : List (ℕ × ℕ) → ℕ
row_size [] = 0
row_size (f ∷ fs) = f.0 + row_size fs

-- the field that begins at an offset, or one of width 0 where none does. It computes where the widths are numerals
abbrev pub row_at : List (ℕ × ℕ) → ℕ → ℕ × ℕ
row_at [] off = (0, 0)
row_at (f ∷ fs) zero = f
row_at (f ∷ fs) (suc off) = cond (leb f.0 (suc off)) (row_at fs (suc off - f.0)) (0, 0)
