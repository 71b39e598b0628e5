-- Which areas touch, by their ids (document 02, No. 5). Definitions only.
use Rattle.std.specs.Prelude.{ℕ, ◌+◌, ◌-◌, ◌/◌, Bool, ◌&&◌, ◌||◌, ltb, eqb}

-- how far apart two ids are, as whole numbers: nothing wraps
abbrev pub apart : ℕ → ℕ → ℕ
apart a b = (a - b) + (b - a)

-- "the grid is 100 cells wide": the row of a hundred in which an area lies
abbrev pub row : ℕ → ℕ
row a = a / 100

-- "two areas below 10000 touch when their ids differ by 100, or differ by 1 within the same row of a hundred; an area of 10000 or more touches none"
unfoldable pub touch : ℕ → ℕ → Bool
touch a b =
    (ltb a 10000 && ltb b 10000) && (eqb (apart a b) 100 || (eqb (apart a b) 1 && eqb (row a) (row b)))
