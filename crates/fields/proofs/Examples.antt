-- What `bits_back` is for: each packed number of document 01 reads back by one line a field.
use mathlib.Core.Path.{◌≡◌, refl}
use mathlib.Core.List.{[], ◌∷◌}
use Prim.Native.Nat.{ℕ, ◌%◌, ◌^◌}
use Rattle.fields.specs.Rows.{pack, field}
use Rattle.fields.proofs.Rows.{bits_back}

module _ (a b c d : ℕ) where
  -- an edge half: area index, poly, unk2, unk3
  pub half_poly : field 5 14 (pack ((5, a) ∷ (14, b) ∷ (2, c) ∷ (11, d) ∷ [])) ≡ b % 2 ^ 14
  half_poly = bits_back ((5, a) ∷ (14, b) ∷ (2, c) ∷ (11, d) ∷ []) 5 14 b refl

  -- a polygon's word at 0x2C: 4 bits of 0, number ÷ 341, links, links before it
  pub part_links : field 12 3 (pack ((4, a) ∷ (8, b) ∷ (3, c) ∷ (17, d) ∷ [])) ≡ c % 2 ^ 3
  part_links = bits_back ((4, a) ∷ (8, b) ∷ (3, c) ∷ (17, d) ∷ []) 12 3 c refl

  -- a portal's areas: area_from, area_to, area_unk
  pub portal_unk : field 28 4 (pack ((14, a) ∷ (14, b) ∷ (4, c) ∷ [])) ≡ c % 2 ^ 4
  portal_unk = bits_back ((14, a) ∷ (14, b) ∷ (4, c) ∷ []) 28 4 c refl

  -- a polygon's first word in a strip: vertices, edges, links, kind
  pub strip_kind : field 28 4 (pack ((12, a) ∷ (12, b) ∷ (4, c) ∷ (4, d) ∷ [])) ≡ d % 2 ^ 4
  strip_kind = bits_back ((12, a) ∷ (12, b) ∷ (4, c) ∷ (4, d) ∷ []) 28 4 d refl
