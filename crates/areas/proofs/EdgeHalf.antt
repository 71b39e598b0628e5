-- What is read of the word of a half is each value cut to its bits; and the area of an id that was written at its index is that id.
use Rattle.std.proofs.Common.{◌≡◌, ℕ, ◌/◌, ◌%◌, ◌^◌, ◌<◌, ◌≤◌, List, length, get_or, refl, ap, ◌∙◌, div-one, arith, lt-ltb}
use Rattle.fields.proofs.Rows.{pack_lt, bits_back}
use Rattle.distinct.specs.Distinct.{index_of}
use Rattle.distinct.specs.Members.{In}
use Rattle.distinct.proofs.Final.{found}
use Rattle.areas.specs.EdgeHalf.{half_row, half_word, area_of}
use Rattle.areas.specs.Decoded.{decoded_end}
use Rattle.areas.specs.declared.edge.RawEnd.{RawEnd}

module _ (index poly unk2 unk3 : ℕ) where
  pub half_lt : half_word index poly unk2 unk3 < 2 ^ 32
  unfolding half_word
  half_lt = pack_lt (half_row index poly unk2 unk3)

  pub end_back : decoded_end (half_word index poly unk2 unk3) ≡ record { index = index % 2 ^ 5; poly = poly % 2 ^ 14; unk2 = unk2 % 2 ^ 2; unk3 = unk3 % 2 ^ 11 }
  unfolding half_word
  end_back =
      let row = half_row index poly unk2 unk3 in
      rw (bits_back row 0 5 index refl, bits_back row 5 14 poly refl, bits_back row 19 2 unk2 refl, bits_back row 21 11 unk3 refl)

-- what is read, by what each field is
pub end_by_fields : (raw : ℕ) {i p a b : ℕ} → i ≡ raw % 32 → p ≡ raw / 32 % 16384 → a ≡ raw / 524288 % 4 → b ≡ raw / 2097152 % 2048
    → record { index = i; poly = p; unk2 = a; unk3 = b } ≡ decoded_end raw
end_by_fields raw e f g h = rw (e, f, g, h, div-one)

-- of at most 32 areas, each that was met
pub area_back : (ids : List ℕ) (id poly unk2 unk3 : ℕ) → length ids ≤ 32 → In ids id
    → area_of (λ i. get_or ids i 0) (length ids) (decoded_end (half_word (index_of ids id) poly unk2 unk3)).index ≡ id
area_back ids id poly unk2 unk3 few met =
    let here : (decoded_end (half_word (index_of ids id) poly unk2 unk3)).index ≡ index_of ids id = ap (λ (r : RawEnd). r.index) (end_back (index_of ids id) poly unk2 unk3) ∙ omega arith in
    ap (area_of (λ i. get_or ids i 0) (length ids)) here ∙ rw (lt-ltb (index_of ids id) (length ids) met) (found ids id met)
