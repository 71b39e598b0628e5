-- Stores of a record's parts, one after the other, are one `put`.
use mathlib.Core.Path.{◌≡◌, refl}
use mathlib.Core.List.{List, [], ◌∷◌, ◌++◌}
use Prim.Native.Nat.{ℕ, ◌+◌, ◌*◌, ◌/◌, ◌%◌, ◌^◌, ◌<◌}
use native.Mathlib.Omega.{arith}
use Rattle.fields.specs.Put.{put}
use Rattle.fields.specs.Rows.{pack, field}
use Rattle.fields.proofs.Puts.{put_next}
use Rattle.strip.specs.Cell.{Vec3, vec_words, head_words, portal_words}
use Rattle.cell_record.specs.Record.{bits, head_by}
use Rattle.cell_record.specs.declared.CellRecord.{CellRecord}
use Rattle.read_grammar.specs.Derives.{portal_of}
use Rattle.read_records.specs.Words.{value_words, front_words, back_words}

-- the cell's record
pub cell_stored : (c : CellRecord) (xs : List ℕ)
    → put 11 (vec_words (bits c.bb_size)) (put 8 (vec_words (bits c.bb_max)) (put 5 (vec_words (bits c.bb_min)) (put 0 (value_words c) xs))) ≡ put 0 (head_words (head_by c)) xs
unfolding vec_words value_words head_words head_by
cell_stored c xs =
    let values = value_words c in
    let lo = vec_words (bits c.bb_min) in
    let hi = vec_words (bits c.bb_max) in
    let size = vec_words (bits c.bb_size) in
    rw (put_next 5 0 values lo xs refl, put_next 8 0 (values ++ lo) hi xs refl, put_next 11 0 ((values ++ lo) ++ hi) size xs refl)

-- a portal's record
pub portal_stored : (back : ℕ → ℕ → ℕ → Vec3) (b : List ℕ) (at : ℕ) (from to xs : List ℕ) → from ≡ vec_words (portal_of back b).from → to ≡ vec_words (portal_of back b).to
    → put (at + 8) (back_words b) (put (at + 5) to (put (at + 2) from (put at (front_words b) xs))) ≡ put at (portal_words (portal_of back b)) xs
unfolding vec_words front_words back_words portal_words portal_of
portal_stored back b at from to xs e f =
    let front = front_words b in
    let p = vec_words (portal_of back b).from in
    let q = vec_words (portal_of back b).to in
    rw (e, f, put_next 2 at front p xs refl, put_next 5 at (front ++ p) q xs refl, put_next 8 at ((front ++ p) ++ q) (back_words b) xs refl)

-- ---- words that are put together

-- a portal's first word
pub portal_first : (a b : ℕ) → a < 2 ^ 8 → b < 2 ^ 8 → 0x3000_0000 + 0x100 * b + a ≡ pack ((8, a) ∷ (8, b) ∷ (12, 0) ∷ (4, 3) ∷ [])
unfolding pack
portal_first a b h k = omega arith

-- the fields of its areas
module _ (w : ℕ) where
  pub area_from : w % 16384 ≡ field 0 14 w
  area_from = omega arith

  pub area_to : w / 16384 % 16384 ≡ field 14 14 w
  area_to = omega arith

  pub area_unk : w < 2 ^ 32 → w / 0x1000_0000 ≡ field 28 4 w
  area_unk h = omega arith
