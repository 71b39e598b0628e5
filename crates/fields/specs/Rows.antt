-- A record as a row of fields, each a width and a value, the lowest first. Widths count bytes where the record is a run of bytes (`row_bytes`),
-- and bits where it is one number (`pack`). A value is cut to its width. Definitions only.
use Rattle.std.specs.Prelude.{ℕ, ◌+◌, ◌*◌, ◌/◌, ◌%◌, ◌^◌, List, [], ◌∷◌, ◌++◌}
use Rattle.fields.specs.Bytes.{le_bytes}

-- the bytes of a record
unfoldable pub row_bytes : List (ℕ × ℕ) → List ℕ
row_bytes [] = []
row_bytes (f ∷ fs) = le_bytes f.0 f.1 ++ row_bytes fs

-- the number whose bits, from the lowest on, are the fields
unfoldable pub pack : List (ℕ × ℕ) → ℕ
pack [] = 0
pack (f ∷ fs) = f.1 % 2 ^ f.0 + 2 ^ f.0 * pack fs

-- bits lo to lo + bits of x
abbrev pub field : ℕ → ℕ → ℕ → ℕ
field lo bits x = x / 2 ^ lo % 2 ^ bits
