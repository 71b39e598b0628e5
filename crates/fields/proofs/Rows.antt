-- The fields of a record read back: one law for a run of bytes and one for the bits of a number, each over every row of fields.
use mathlib.Core.Path.{◌≡◌, refl, sym, ap, subst, ◌∙◌}
use mathlib.Core.Bool.{Bool, true, false, cond}
use mathlib.Core.List.{List, [], ◌∷◌}
use Prim.Native.Nat.{ℕ, zero, suc, ◌+◌, ◌-◌, ◌/◌, ◌%◌, ◌^◌, ◌<◌}
use native.Mathlib.Nat.{zero-add, add_comm, mul_comm, div-one, mod-mod, mod-lt, div-eq_of_lt, add-mul-mod_self_left, add-mul-div_left}
use native.Mathlib.Omega.{arith}
use lib.Arith.{digits_lt}
use lib.Dec.{leb}
use lib.ListN.{length, length-append}
use lib.Pow.{pow_pos, pow-add, shr-shr}
use borrow.Author.Tests.{leb-true}
use Rattle.fields.specs.Bytes.{le_at, le_bytes}
use Rattle.fields.specs.Rows.{row_bytes, pack, field}
use Rattle.fields.specs.RowPlaces.{row_size, row_at}
use Rattle.fields.proofs.Bytes.{length_bytes}
use Rattle.fields.proofs.Holds.{Holds, all_held, held_in, held_first, held_second, held_value}

-- ---- bytes

pub length_rows : (fs : List (ℕ × ℕ)) → length (row_bytes fs) ≡ row_size fs
unfolding row_bytes
length_rows [] = refl
length_rows (f ∷ fs) = rw (length-append, length_bytes, length_rows fs)

-- the bytes of the field at an offset stand there
pub row_held : (fs : List (ℕ × ℕ)) (off : ℕ) → 0 < (row_at fs off).0 → Holds (row_bytes fs) off (le_bytes (row_at fs off).0 (row_at fs off).1)
unfolding row_bytes
row_held [] off h = absurd (omega arith)
row_held (f ∷ fs) zero h = held_first (le_bytes f.0 f.1) (row_bytes fs) (all_held (row_bytes (f ∷ fs)))
row_held (f ∷ fs) (suc off) h = by (leb f.0 (suc off)) refl h (row_held fs (suc off - f.0))
  where
    by : (t : Bool) → leb f.0 (suc off) ≡ t → 0 < (cond t (row_at fs (suc off - f.0)) (0, 0)).0
        → (0 < (row_at fs (suc off - f.0)).0 → Holds (row_bytes fs) (suc off - f.0) (le_bytes (row_at fs (suc off - f.0)).0 (row_at fs (suc off - f.0)).1))
        → Holds (row_bytes (f ∷ fs)) (suc off) (le_bytes (cond t (row_at fs (suc off - f.0)) (0, 0)).0 (cond t (row_at fs (suc off - f.0)) (0, 0)).1)
    by false e k rest = absurd (omega arith)
    by true e k rest =
        let l = length_bytes f.0 f.1 in
        let le' = leb-true f.0 (suc off) e in
        let second = held_second (le_bytes f.0 f.1) (row_bytes fs) (all_held (row_bytes (f ∷ fs))) in
        let p : 0 + length (le_bytes f.0 f.1) + (suc off - f.0) ≡ suc off = omega arith in
        subst (λ (at : ℕ). Holds (row_bytes (f ∷ fs)) at (le_bytes (row_at fs (suc off - f.0)).0 (row_at fs (suc off - f.0)).1)) p
        (held_in second (rest k))

-- a field of a record that stands in s
pub field_in : {s : List ℕ} {at : ℕ} (fs : List (ℕ × ℕ)) (off n v : ℕ) → 0 < n → row_at fs off ≡ (n, v) → Holds s at (row_bytes fs) → le_at n s (at + off) ≡ v % 256 ^ n
field_in {s} {at} fs off n v some e h =
    let k : Holds (row_bytes fs) off (le_bytes n v) = subst (λ (f : ℕ × ℕ). 0 < f.0 → Holds (row_bytes fs) off (le_bytes f.0 f.1)) e (row_held fs off) some in
    held_value n v (held_in h k)

-- a field of a record
pub field_back : (fs : List (ℕ × ℕ)) (off n v : ℕ) → 0 < n → row_at fs off ≡ (n, v) → le_at n (row_bytes fs) off ≡ v % 256 ^ n
field_back fs off n v some e = rw zero-add at (field_in fs off n v some e (all_held (row_bytes fs)))

-- ---- bits

-- the lowest field, and what is above it
pack_low : (f : ℕ × ℕ) (fs : List (ℕ × ℕ)) → pack (f ∷ fs) % 2 ^ f.0 ≡ f.1 % 2 ^ f.0
unfolding pack
pack_low f fs = add-mul-mod_self_left (f.1 % 2 ^ f.0) (2 ^ f.0) (pack fs) ∙ mod-mod f.1 (2 ^ f.0)

pack_high : (f : ℕ × ℕ) (fs : List (ℕ × ℕ)) → pack (f ∷ fs) / 2 ^ f.0 ≡ pack fs
unfolding pack
pack_high f fs =
    add-mul-div_left (f.1 % 2 ^ f.0) (pack fs) {y = 2 ^ f.0} (pow_pos f.0) ∙ rw (div-eq_of_lt (mod-lt f.1 (pow_pos f.0)), zero-add)

-- a number of so many bits
pub pack_lt : (fs : List (ℕ × ℕ)) → pack fs < 2 ^ row_size fs
unfolding pack
pack_lt [] = omega arith
pack_lt (f ∷ fs) =
    let h = digits_lt (pack_lt fs) (mod-lt f.1 (pow_pos f.0)) in
    rw (pow-add 2 f.0 (row_size fs), mul_comm (2 ^ f.0) (pack fs), mul_comm (2 ^ f.0) (2 ^ row_size fs), add_comm) h

-- the field at an offset
row_bits : (fs : List (ℕ × ℕ)) (lo : ℕ) → field lo (row_at fs lo).0 (pack fs) ≡ (row_at fs lo).1 % 2 ^ (row_at fs lo).0
row_bits [] lo = omega arith
row_bits (f ∷ fs) zero = rw div-one (pack_low f fs)
row_bits (f ∷ fs) (suc lo) = by (leb f.0 (suc lo)) refl (row_bits fs (suc lo - f.0))
  where
    by : (t : Bool) → leb f.0 (suc lo) ≡ t
        → field (suc lo - f.0) (row_at fs (suc lo - f.0)).0 (pack fs) ≡ (row_at fs (suc lo - f.0)).1 % 2 ^ (row_at fs (suc lo - f.0)).0
        → field (suc lo) (cond t (row_at fs (suc lo - f.0)) (0, 0)).0 (pack (f ∷ fs)) ≡ (cond t (row_at fs (suc lo - f.0)) (0, 0)).1 % 2 ^ (cond t (row_at fs (suc lo - f.0)) (0, 0)).0
    by false e rest = omega arith
    by true e rest =
        let le' = leb-true f.0 (suc lo) e in
        let p : suc lo ≡ f.0 + (suc lo - f.0) = omega arith in
        let high : pack (f ∷ fs) / 2 ^ suc lo ≡ pack fs / 2 ^ (suc lo - f.0) =
        ap (λ (k : ℕ). pack (f ∷ fs) / 2 ^ k) p ∙ sym (shr-shr (pack (f ∷ fs)) f.0 (suc lo - f.0)) ∙ ap (λ (x : ℕ). x / 2 ^ (suc lo - f.0)) (pack_high f fs) in
        rw high rest

pub bits_back : (fs : List (ℕ × ℕ)) (lo n v : ℕ) → row_at fs lo ≡ (n, v) → field lo n (pack fs) ≡ v % 2 ^ n
bits_back fs lo n v e = subst (λ (f : ℕ × ℕ). field lo f.0 (pack fs) ≡ f.1 % 2 ^ f.0) e (row_bits fs lo)
