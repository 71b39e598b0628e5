-- First words as rows of bits: a word is the row of its own fields, and a row has its kind on top. Assumes nothing.
use Prim.Native.Nat.{ℕ, ◌+◌, ◌/◌, ◌%◌, ◌^◌, ◌<◌}
use mathlib.Core.Path.{◌≡◌, refl, ◌∙◌, sym}
use mathlib.Core.List.{List, [], ◌∷◌}
use native.Mathlib.Nat.{mod-mod, mod-add-div, mod-eq_of_lt, div-one}
use native.Mathlib.Omega.{arith}
use lib.Pow.{shr-shr}
use Rattle.fields.specs.Rows.{pack, field}
use Rattle.fields.specs.RowPlaces.{row_at, row_size}
use Rattle.fields.proofs.Rows.{bits_back, pack_lt}
use Rattle.strip.specs.Scan.{kind_of}

-- one field more, below those that make up the number above it
pub field_next : (lo bits w : ℕ) (fs : List (ℕ × ℕ)) → pack fs ≡ w / 2 ^ (lo + bits) → pack ((bits, field lo bits w) ∷ fs) ≡ w / 2 ^ lo
unfolding pack
field_next lo bits w fs e =
    let high : pack fs ≡ w / 2 ^ lo / 2 ^ bits = e ∙ sym (shr-shr w lo bits) in
    rw (high, mod-mod) (mod-add-div (w / 2 ^ lo) (2 ^ bits))

-- a word of a kind, with the bits below it as a polygon's, as a portal's or a point's, and as a cell's or an end's
module _ (kind w : ℕ) (small : kind < 16) (k : kind_of w ≡ kind) where
  top : pack ((4, kind) ∷ []) ≡ w / 2 ^ 28
  unfolding pack
  top = rw (mod-eq_of_lt small) (omega arith)

  pub counts_word : pack ((12, field 0 12 w) ∷ (12, field 12 12 w) ∷ (4, field 24 4 w) ∷ (4, kind) ∷ []) ≡ w
  counts_word = field_next 0 12 w _ (field_next 12 12 w _ (field_next 24 4 w _ top)) ∙ div-one w

  pub bytes_word : field 0 28 w < 2 ^ 16 → pack ((8, field 0 8 w) ∷ (8, field 8 8 w) ∷ (12, 0) ∷ (4, kind) ∷ []) ≡ w
  bytes_word h =
      let zero : field 16 12 w ≡ 0 = omega arith in
      let high : pack ((12, 0) ∷ (4, kind) ∷ []) ≡ w / 2 ^ 16 = rw zero at (field_next 16 12 w _ top) in
      field_next 0 8 w _ (field_next 8 8 w _ high) ∙ div-one w

  pub bare_word : field 0 28 w < 1 → pack ((28, 0) ∷ (4, kind) ∷ []) ≡ w
  bare_word h =
      let zero : field 0 28 w ≡ 0 = omega arith in
      rw zero at (field_next 0 28 w _ top) ∙ div-one w

-- the kind of a row of 32 bits
pub kind_back : (fs : List (ℕ × ℕ)) (kind : ℕ) → kind < 16 → row_at fs 28 ≡ (4, kind) → row_size fs ≡ 32 → kind_of (pack fs) ≡ kind
kind_back fs kind small e size =
    let b = bits_back fs 28 4 kind e in
    let l : pack fs < 2 ^ 32 = rw size at (pack_lt fs) in
    let m : kind % 2 ^ 4 ≡ kind = mod-eq_of_lt small in
    omega arith

-- a field that its value fits
pub held_field : (fs : List (ℕ × ℕ)) (lo bits v : ℕ) → row_at fs lo ≡ (bits, v) → v < 2 ^ bits → field lo bits (pack fs) ≡ v
held_field fs lo bits v e h = bits_back fs lo bits v e ∙ mod-eq_of_lt h

-- the bits that a portal's or a point's first word leaves unnamed
pub unnamed_back : (a b kind : ℕ) → field 0 28 (pack ((8, a) ∷ (8, b) ∷ (12, 0) ∷ (4, kind) ∷ [])) < 2 ^ 16
unnamed_back a b kind = omega (arith, bits_back ((8, a) ∷ (8, b) ∷ (12, 0) ∷ (4, kind) ∷ []) 16 12 0 refl)
