-- Document 01, module 3: a polygon's min starts from the greatest finite f32, its max from the least. Floats stand as their bits, three words to a vertex. Definitions only.
use Rattle.std.specs.Prelude.{ℕ, true, false, List, [], ◌∷◌, ℤ, pos, from_bits, Float}
use Rattle.std.specs.Float.{fin, binary32}
use Rattle.math.specs.MinMax.{lesser, greater}
use Rattle.quarters.specs.Quarter.{quarter_floor, quarter_ceil}

-- (2 ^ 24 - 1) * 2 ^ 104 and its negative
abbrev pub greatest : Float
greatest = fin false 16777215 (pos 104)

abbrev pub lowest : Float
lowest = fin true 16777215 (pos 104)

-- the same with one of the zeros picked, which a quarter box does not show
unfoldable pub fold : (Float → Float → Float) → Float → List ℕ → Float
fold pick a [] = a
fold pick a (w ∷ ws) = fold pick (pick a (from_bits binary32 w)) ws

abbrev pub least_side : List ℕ → ℤ
least_side ws = quarter_floor (fold lesser greatest ws)

abbrev pub greatest_side : List ℕ → ℤ
greatest_side ws = quarter_ceil (fold greater lowest ws)
