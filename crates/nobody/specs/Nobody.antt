-- Whom a half of an edge lies towards, by its poly. Every call that asks uses this. Definitions only.
use Rattle.std.specs.Prelude.{ℕ, ◌%◌, Bool, eqb}

-- "poly, cut to 14 bits"
unfoldable pub cut : ℕ → ℕ
cut poly = poly % 16384

-- "poly 16383, which means no neighbour"
unfoldable pub nobody : ℕ → Bool
nobody poly = eqb (cut poly) 16383
