-- The half of an edge as it stands in the pages. Definitions only.
use Rattle.std.specs.Prelude.{ℕ, cond, List, [], ◌∷◌, nat_lt}
use Rattle.fields.specs.Rows.{pack}

-- area index in bits 0-4, poly 5-18, unk2 19-20, unk3 21-31
abbrev pub half_row : ℕ → ℕ → ℕ → ℕ → List (ℕ × ℕ)
half_row index poly unk2 unk3 = (5, index) ∷ (14, poly) ∷ (2, unk2) ∷ (11, unk3) ∷ []

unfoldable pub half_word : ℕ → ℕ → ℕ → ℕ → ℕ
half_word index poly unk2 unk3 = pack (half_row index poly unk2 unk3)

-- the area of NONE, and its poly
abbrev pub adjacent_none : ℕ
adjacent_none = 16383

-- the area of a read index, when the area at i is `area i`: one not below the area count gives ADJACENT-NONE
abbrev pub area_of : (ℕ → ℕ) → ℕ → ℕ → ℕ
area_of area count index = cond (nat_lt index count) (area index) adjacent_none
