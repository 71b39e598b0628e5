-- The words that the code stores have the bytes of the header's rows. Assumes nothing.
use Prim.Native.Nat.{ℕ, zero, suc, ◌+◌, ◌*◌, ◌-◌, ◌^◌, ◌≤◌, ◌<◌}
use mathlib.Core.Path.{◌≡◌, refl, sym, ap, ◌∙◌}
use mathlib.Core.List.{List, [], ◌∷◌, ◌++◌, append_assoc}
use native.Mathlib.Omega.{arith}
use native.Mathlib.Nat.{mul-suc}
use lib.Dec.{lit<}
use lib.ListN.{length, take}
use lib.Seq.{length-take-le}
use Rattle.fields.specs.Bytes.{le_bytes, les}
use Rattle.fields.specs.Put.{put}
use Rattle.fields.specs.Rows.{row_bytes}
use Rattle.fields.proofs.Bytes.{length_les, bytes_join, le_address, zero_words}
use Rattle.fields.proofs.Puts.{put_next}
use Rattle.fields.proofs.Rows.{length_rows}
use Rattle.strip.specs.Cell.{Head}
use Rattle.write_pages.specs.Sectors.{nan_word}
use Rattle.write_pages.specs.Pages.{Places, HeaderCounts, one_bits, header_first, header_last, header_bytes, padded}
use Rattle.write_pages.proofs.Sizes.{length_padded}

-- ---- the header

module _ (h : Head) (a : Places) (n : HeaderCounts) where
  pub first_words : a.vertices < 2 ^ 32 → a.indices < 2 ^ 32 → a.edges < 2 ^ 32
      → les 4
      (h.vft ∷ 1 ∷ 0 ∷ 0 ∷ h.content ∷ 0x10011 ∷ 0 ∷ 0
      ∷ one_bits ∷ 0 ∷ 0 ∷ nan_word ∷ 0 ∷ one_bits ∷ 0 ∷ nan_word ∷ 0 ∷ 0 ∷ one_bits ∷ nan_word ∷ 0 ∷ 0 ∷ 0 ∷ nan_word
      ∷ h.bb_size.x ∷ h.bb_size.y ∷ h.bb_size.z ∷ 0x7F80_0001
      ∷ a.vertices ∷ 0 ∷ 0 ∷ 0 ∷ a.indices ∷ 0 ∷ a.edges ∷ 0 ∷ n.indices ∷ n.areas ∷ [])
      ≡ row_bytes (header_first h a n)
  unfolding les row_bytes
  first_words v i e = simp (le_address a.vertices v, le_address a.indices i, le_address a.edges e, le_address 0 (lit< tt), append_assoc)

  pub last_words : a.polygons < 2 ^ 32 → a.root < 2 ^ 32 → a.portals < 2 ^ 32 → a.links < 2 ^ 32
      → les 4
      (a.polygons ∷ 0 ∷ a.root ∷ 0 ∷ a.portals ∷ 0 ∷ a.links ∷ 0 ∷ n.vertices ∷ n.polygons ∷ h.area ∷ n.total
      ∷ n.points ∷ n.portals ∷ n.links ∷ 0 ∷ 0 ∷ 0 ∷ h.version ∷ 0 ∷ 0 ∷ 0 ∷ [])
      ≡ row_bytes (header_last h a n)
  unfolding les row_bytes
  last_words p r q l =
      simp (le_address a.polygons p, le_address a.root r, le_address a.portals q, le_address a.links l, zero_words, append_assoc)

  -- the three runs are one
  pub header_runs : (us xs ys zs ws : List ℕ) → ys ≡ put 0 (row_bytes (header_first h a n)) xs → zs ≡ put 152 (les 4 (padded 32 us)) ys
      → ws ≡ put 280 (row_bytes (header_last h a n)) zs → ws ≡ put 0 (header_bytes h a n us) xs
  unfolding header_bytes
  header_runs us xs ys zs ws ey ez ew =
      let first = row_bytes (header_first h a n) in
      let areas = les 4 (padded 32 us) in
      let last = row_bytes (header_last h a n) in
      let areas-long : length areas ≡ 128 = length_les 4 (padded 32 us) ∙ ap (λ (k : ℕ). 4 * k) (length_padded 32 us) in
      ew
      ∙ ap (put 280 last) ez
      ∙ put_next 128 152 areas last ys areas-long
      ∙ ap (put 152 (areas ++ last)) ey
      ∙ put_next 152 0 first (areas ++ last) xs (length_rows (header_first h a n))

-- ---- the areas, with zeros behind them

pub padded_bytes : (m : ℕ) (l : List ℕ) → length l ≤ m → les 4 (padded m l) ≡ les 4 l ++ le_bytes (4 * m - 4 * length l) 0
unfolding les padded le_bytes
padded_bytes zero [] h = refl
padded_bytes zero (x ∷ l) h = absurd (omega arith)
padded_bytes (suc m) [] h =
    let e : 4 * suc m - 4 * length {A = ℕ} [] ≡ 4 + (4 * m - 4 * length {A = ℕ} []) = omega (arith, mul-suc 4 m) in
    rw (padded_bytes m [] (omega arith), e) (sym (bytes_join 4 (4 * m - 4 * length {A = ℕ} []) 0))
padded_bytes (suc m) (x ∷ l) h =
    let k : 4 * suc m - 4 * suc (length l) ≡ 4 * m - 4 * length l = omega (arith, mul-suc 4 m, mul-suc 4 (length l)) in
    rw (padded_bytes m l (omega arith), k)

module _ (ids : List ℕ) (len : ℕ) (xs : List ℕ) where
  -- the first `len`, and zeros
  pub areas_some : (ys zs : List ℕ) → length ids ≡ 32 → len ≤ 32 → ys ≡ put 152 (les 4 (take len ids)) xs
      → zs ≡ put (152 + 4 * len) (le_bytes (128 - 4 * len) 0) ys → zs ≡ put 152 (les 4 (padded 32 (take len ids))) xs
  areas_some ys zs e h p q =
      let n : length (take len ids) ≡ len = length-take-le len ids (omega arith) in
      let long : length (les 4 (take len ids)) ≡ 4 * len = length_les 4 (take len ids) ∙ ap (λ (k : ℕ). 4 * k) n in
      let bytes : les 4 (padded 32 (take len ids)) ≡ les 4 (take len ids) ++ le_bytes (128 - 4 * len) 0 =
      padded_bytes 32 (take len ids) (omega arith) ∙ ap (λ (k : ℕ). les 4 (take len ids) ++ le_bytes (128 - 4 * k) 0) n in
      q ∙ ap (put (152 + 4 * len) (le_bytes (128 - 4 * len) 0)) p ∙ put_next (4 * len) 152 (les 4 (take len ids)) (le_bytes (128 - 4 * len) 0) xs long
      ∙ ap (λ (bs : List ℕ). put 152 bs xs) (sym bytes)
