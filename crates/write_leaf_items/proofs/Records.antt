-- The bytes of a leaf's data and of a point, from the words that the writer stores. Assumes nothing.
use Prim.Native.Nat.{ℕ, ◌+◌, ◌/◌, ◌%◌, ◌^◌, ◌<◌}
use mathlib.Core.Path.{◌≡◌}
use mathlib.Core.List.{List, [], ◌∷◌, ◌++◌, append_assoc}
use native.Mathlib.Omega.{arith}
use lib.ListN.{get_or}
use Rattle.fields.specs.Bytes.{le_bytes, les}
use Rattle.fields.specs.Rows.{row_bytes, field}
use Rattle.fields.proofs.Bytes.{le_address}
use Rattle.math.specs.declared.vec3.Vec3.{Vec3 as Floats}
use Rattle.quantise.specs.Short.{shorts}
use Rattle.strip.specs.Reading.{vec_at, point_at}
use Rattle.write_pages.specs.Items.{floats}
use Rattle.write_pages.specs.Sectors.{data_row, point_row}

-- ---- the data

pub data_words : (first ids points counts m n : ℕ) → ids < 2 ^ 32 → points < 2 ^ 32 → le_bytes 4 counts ≡ le_bytes 2 m ++ le_bytes 2 n
    → les 4 (first ∷ 0 ∷ ids ∷ 0 ∷ points ∷ 0 ∷ counts ∷ 0 ∷ []) ≡ row_bytes (data_row first ids points m n)
unfolding les row_bytes
data_words first ids points counts m n i p e = simp (le_address ids i, le_address points p, e, append_assoc)

-- ---- a point

-- its angle and kind stand in the low bytes of its first word
pub low_bytes : (w : ℕ) → le_bytes 2 (w % 65536) ≡ le_bytes 1 (field 0 8 w) ++ le_bytes 1 (field 8 8 w)
unfolding le_bytes
low_bytes w =
    let a : w % 65536 % 256 ≡ field 0 8 w % 256 = omega arith in
    let b : w % 65536 / 256 % 256 ≡ field 8 8 w % 256 = omega arith in
    rw (a, b)

pub point_words : (bb-min bb-size : Floats) (s : List ℕ) (at x y : ℕ)
    → le_bytes 4 x ≡ le_bytes 2 (shorts (floats (vec_at s (at + 1))) bb-min bb-size).x ++ le_bytes 2 (shorts (floats (vec_at s (at + 1))) bb-min bb-size).y
    → le_bytes 4 y ≡ le_bytes 2 (shorts (floats (vec_at s (at + 1))) bb-min bb-size).z ++ le_bytes 2 (get_or s at 0 % 65536)
    → les 4 (x ∷ y ∷ []) ≡ row_bytes (point_row bb-min bb-size (point_at s at))
unfolding les row_bytes point_at
point_words bb-min bb-size s at x y e f = simp (e, f, low_bytes (get_or s at 0), append_assoc)
