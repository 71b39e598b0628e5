-- The bytes of a sector's record, from the words that the writer stores. Assumes nothing.
use Prim.Native.Nat.{ℕ, ◌+◌, ◌*◌, ◌^◌, ◌<◌}
use mathlib.Core.Path.{◌≡◌, ap, ◌∙◌}
use mathlib.Core.List.{[], ◌∷◌, ◌++◌, append_assoc}
use lib.IntN.{ℤ}
use lib.Ieee.{Float, binary32, to_bits}
use mathlib.Core.Bool.{true, false}
use mir.Syntax.{w16}
use mir.Val.{to_z, of_z}
use Rattle.fields.specs.Bytes.{le_bytes, les}
use Rattle.fields.specs.Rows.{row_bytes}
use Rattle.fields.proofs.Bytes.{le_address, le_pair, zero_words}
use Rattle.quarters.specs.Quarter.{quarter_floor, quarter_ceil, bits16}
use Rattle.quarters.specs.declared.bounds.Aabb.{Aabb}
use Rattle.quarters.proofs.Quarters.{side_read}
use Rattle.write_pages.specs.Sectors.{nan_word, sector_row}

-- an axis of a quarter box, as a word and as two fields
axis_bytes : (x a b : ℕ) → (x ≡ a + 65536 * b) × (a < 65536) → le_bytes 4 x ≡ le_bytes 2 a ++ le_bytes 2 b
axis_bytes x a b h = ap (le_bytes 4) h.0 ∙ le_pair a b h.1

-- where its sides are those of two floats
pub axis_word : (bb-min hi : Float) (a b : ℤ) (x : ℕ) → a ≡ quarter_floor bb-min → b ≡ quarter_ceil hi
    → (x ≡ bits16 (to_z w16 (of_z w16 a)) + 65536 * bits16 (to_z w16 (of_z w16 b))) × (bits16 (to_z w16 (of_z w16 a)) < 65536)
    → (x ≡ bits16 (quarter_floor bb-min) + 65536 * bits16 (quarter_ceil hi)) × (bits16 (quarter_floor bb-min) < 65536)
axis_word bb-min hi a b x ea eb h = rw (side_read false bb-min a ea, side_read true hi b eb) at h

pub sector_words : (b : Aabb) (x y z d s0 s1 s2 s3 : ℕ)
    → (x ≡ bits16 (quarter_floor b.min.x) + 65536 * bits16 (quarter_ceil b.max.x)) × (bits16 (quarter_floor b.min.x) < 65536)
    → (y ≡ bits16 (quarter_floor b.min.y) + 65536 * bits16 (quarter_ceil b.max.y)) × (bits16 (quarter_floor b.min.y) < 65536)
    → (z ≡ bits16 (quarter_floor b.min.z) + 65536 * bits16 (quarter_ceil b.max.z)) × (bits16 (quarter_floor b.min.z) < 65536)
    → d < 2 ^ 32 → s0 < 2 ^ 32 → s1 < 2 ^ 32 → s2 < 2 ^ 32 → s3 < 2 ^ 32
    → les 4
    (to_bits binary32 b.min.x ∷ to_bits binary32 b.min.y ∷ to_bits binary32 b.min.z ∷ nan_word
    ∷ to_bits binary32 b.max.x ∷ to_bits binary32 b.max.y ∷ to_bits binary32 b.max.z ∷ nan_word
    ∷ x ∷ y ∷ z ∷ d ∷ 0 ∷ s0 ∷ 0 ∷ s1 ∷ 0 ∷ s2 ∷ 0 ∷ s3 ∷ 0 ∷ 0 ∷ 0 ∷ 0 ∷ [])
    ≡ row_bytes (sector_row b d s0 s1 s2 s3)
unfolding les row_bytes
sector_words b x y z d s0 s1 s2 s3 ex ey ez hd h0 h1 h2 h3 =
    simp (
      axis_bytes x _ _ ex,
      axis_bytes y _ _ ey,
      axis_bytes z _ _ ez,
      le_address d hd,
      le_address s0 h0,
      le_address s1 h1,
      le_address s2 h2,
      le_address s3 h3,
      zero_words,
      append_assoc,
    )
