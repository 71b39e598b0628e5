-- The whole part of a float, cut to the grid, by the whole part as 64 bits have it.
use Rattle.std.proofs.Common.{◌≡◌, ℕ, min, true, false, refl, arith}
use lib.Ieee.{Float, nan, inf, fin, to_unsigned}
use Rattle.cell_grid.specs.Grid.{in_grid}

cut : (t : Float) → in_grid t ≡ min (to_unsigned 64 t) 99
unfolding in_grid to_unsigned
cut nan = refl
cut (inf true) = refl
cut (inf false) = refl
cut (fin true m e) = refl
cut (fin false m e) = omega arith

pub cut_to : (t : Float) (n : ℕ) {m : ℕ} → n ≡ to_unsigned 64 t → m ≡ min n 99 → m ≡ in_grid t
cut_to t n is e = rw (cut t, ← is) e
