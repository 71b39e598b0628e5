-- What stands in the pages P is read, whatever follows them and whatever the graphics section: blocks, rows of items that get a block where there
-- are any, and lists. Assumes nothing.
use mathlib.Core.Path.{◌≡◌, refl, sym, ap, subst, ◌∙◌}
use mathlib.Core.List.{List, [], ◌∷◌, ◌++◌, map}
use Prim.Native.Nat.{ℕ, zero, suc, ◌+◌, ◌-◌, ◌*◌, ◌%◌, ◌^◌, ◌≤◌, ◌<◌, min}
use native.Mathlib.Nat.{mul-suc, suc-mul, div-add-mod', mod-lt, add-zero, mul-le-mul_left}
use native.Mathlib.Omega.{arith}
use lib.ListN.{length, take, drop, length-drop, take-append-drop}
use lib.Seq.{length-take-le}
use Rattle.fields.specs.Bytes.{le_at, cat}
use Rattle.fields.specs.Rows.{row_bytes}
use Rattle.fields.proofs.Bytes.{cat_append}
use Rattle.fields.proofs.Holds.{Holds, all_held, held_more, held_first, held_second, held_end}
use Rattle.fields.proofs.Rows.{length_rows, field_in, field_back}
use Rattle.write_blocks.specs.Layout.{place_of, behind, address}
use Rattle.write_blocks.specs.Lists.{per_part, part_count, part_counts, chunks, offsets_address, table_at, parts_from, items_end, list_row, part_row, table_bytes, front_blocks, offset_blocks, list_blocks}
use Rattle.write_blocks.specs.ListRoom.{Wide}
use Rattle.write_blocks.proofs.Lists.{cut_back, length_cat, wide_take, wide_drop, table_length}
use Rattle.write_blocks.proofs.Standing.{Stand, stand_first}
use Rattle.read_grammar.specs.Parts.{Good, Array}
use Rattle.read_grammar.specs.Lists.{Table, no_table, table, Parts, no_part, skipped, part, ListAt, Items, some}
use Rattle.read_grammar.proofs.Parts.{held_good}
use Rattle.write_blocks.specs.Optional.{block_of, address_of}
use Rattle.write_blocks.proofs.Optional.{address_some}

-- ---- a block where there is something

pub block_held : (P : List ℕ) (end : ℕ) (b : List ℕ) → 0 < length b → Stand P end (block_of b) → Holds P (place_of end (length b)) b
block_held P end [] h s = absurd (omega arith)
block_held P end (x ∷ b) h s = s.0

-- its address is below 2^64, where the pages are short
pub address_small : (P : List ℕ) (end n : ℕ) (b : List ℕ) → length P < 2 ^ 28 → length b ≡ n → Stand P end (block_of b) → address_of end n < 2 ^ 64
address_small P end zero b few e s = omega arith
address_small P end (suc n) b few e s =
    let held : place_of end (suc n) + suc n ≤ length P = subst (λ (j : ℕ). place_of end j + j ≤ length P) e (held_end (block_held P end b (omega arith) s)) in
    omega arith

module _ (P tail graphics : List ℕ) (few : length P < 2 ^ 28) where
  pub good : {at : ℕ} {b : List ℕ} (n : ℕ) → length b ≡ n → 0 < n → Holds P at b → Good (P ++ tail) graphics (address at) n b
  good {at} {b} n e h held =
      subst (λ (k : ℕ). Good (P ++ tail) graphics (address at) k b) e
      (held_good graphics (omega (arith, held_end held)) (omega arith) (held_more tail held))

  -- items of w bytes in a row
  pub array_back : (w end : ℕ) (items : List (List ℕ)) → 0 < w → Wide w items → Stand P end (block_of (cat items))
      → Array (P ++ tail) graphics w (address_of end (w * length items)) (length items) items
  array_back w end [] h wide blocks = Array.none
  array_back w end (x ∷ items) h wide blocks =
      let n : ℕ = suc (length items) in
      let long : length (cat (x ∷ items)) ≡ w * n = length_cat w (x ∷ items) wide in
      let bytes : 0 < w * n = omega (arith, mul-suc w (length items)) in
      let held : Holds P (place_of end (w * n)) (cat (x ∷ items)) =
      subst (λ (j : ℕ). Holds P (place_of end j) (cat (x ∷ items))) long (block_held P end (cat (x ∷ items)) (omega arith) blocks) in
      rw (address_some end (w * n) bytes)
      (subst (λ (l : List (List ℕ)). Array (P ++ tail) graphics w (address (place_of end (w * n))) n l) (cut_back w (x ∷ items) wide)
      (Array.some (good (w * n) long bytes held)))

  -- ---- lists

  module _ (w : ℕ) (wide : 0 < w) (room : 0 < per_part w) where
    abbrev per : ℕ
    per = per_part w

    -- the first part of a table at `at` of t, and the rest
    parts_step : (k at p : ℕ) (t : List ℕ) (items : List (List ℕ)) (bs : List ℕ)
        → Wide w items → length items < 2 ^ 32
        → Holds t at (row_bytes (part_row (place_of p (w * min per (length items))) (min per (length items))))
        → Holds P (place_of p (w * min per (length items))) (cat (take (min per (length items)) items))
        → Parts (P ++ tail) graphics w t (at + 16) k bs
        → Parts (P ++ tail) graphics w t at (suc k) (cat (take (min per (length items)) items) ++ bs)
    unfolding cat
    parts_step k at p t [] bs h small entry block rest =
        let m : min per 0 ≡ 0 = omega arith in
        let count : le_at 4 t (at + 8) ≡ 0 = field_in (part_row (place_of p (w * min per 0)) (min per 0)) 8 4 (min per 0) (omega arith) refl entry ∙ omega arith in
        rw m (skipped count rest)
    parts_step k at p t (x ∷ items) bs h small entry block rest =
        let m : ℕ = min per (length (x ∷ items)) in
        let place : ℕ = place_of p (w * m) in
        let long : length (cat (take m (x ∷ items))) ≡ w * m =
        length_cat w (take m (x ∷ items)) (wide_take w m (x ∷ items) h) ∙ ap (λ (j : ℕ). w * j) (length-take-le m (x ∷ items) (omega arith)) in
        let one : 1 ≤ m = omega arith in
        let bytes : 0 < w * m = omega (arith, mul-le-mul_left w one) in
        let count : le_at 4 t (at + 8) ≡ m = field_in (part_row place m) 8 4 m (omega arith) refl entry ∙ omega arith in
        let va : le_at 8 t at ≡ address place =
        ap (le_at 8 t) (sym (add-zero at)) ∙ field_in (part_row place m) 0 8 (address place) (omega arith) refl entry ∙ omega (arith, held_end block) in
        let there : Good (P ++ tail) graphics (le_at 8 t at) (w * le_at 4 t (at + 8)) (cat (take m (x ∷ items))) = rw (va, count) (good (w * m) long bytes block) in
        part there rest

    parts_back : (k at p : ℕ) (t : List ℕ) (items : List (List ℕ)) → Wide w items → length items < 2 ^ 32 → length items ≤ k * per
        → Holds t at (table_bytes w p (part_counts k per (length items)))
        → Stand P p (map cat (chunks k per items))
        → Parts (P ++ tail) graphics w t at k (cat items)
    unfolding cat table_bytes
    parts_back zero at p t [] h small fits entries blocks = no_part
    parts_back zero at p t (x ∷ items) h small fits entries blocks = absurd (omega arith)
    parts_back (suc k) at p t items h small fits entries blocks =
        let m : ℕ = min per (length items) in
        let entry = row_bytes (part_row (place_of p (w * m)) m) in
        let rest = table_bytes w (behind p (w * m)) (part_counts k per (length items - m)) in
        let left : length (drop m items) ≡ length items - m = length-drop m items in
        let long : length (cat (take m items)) ≡ w * m =
        length_cat w (take m items) (wide_take w m items h) ∙ ap (λ (j : ℕ). w * j) (length-take-le m items (omega arith)) in
        let e : cat (take m items) ++ cat (drop m items) ≡ cat items = sym (cat_append (take m items) (drop m items)) ∙ ap cat (take-append-drop m items) in
        let fits' : length (drop m items) ≤ k * per = omega (arith, suc-mul k per) in
        let table' : Holds t (at + 16) (table_bytes w (behind p (w * m)) (part_counts k per (length (drop m items)))) =
        rw left (subst (λ (j : ℕ). Holds t (at + j) rest) (length_rows (part_row (place_of p (w * m)) m)) (held_second entry rest entries)) in
        let blocks' : Stand P (behind p (w * m)) (map cat (chunks k per (drop m items))) =
        subst (λ (j : ℕ). Stand P (behind p j) (map cat (chunks k per (drop m items)))) long blocks.1 in
        let block : Holds P (place_of p (w * m)) (cat (take m items)) = subst (λ (j : ℕ). Holds P (place_of p j) (cat (take m items))) long blocks.0 in
        subst (λ (bs : List ℕ). Parts (P ++ tail) graphics w t at (suc k) bs) e
        (parts_step k at p t items (cat (drop m items)) h small (held_first entry rest entries) block
        (parts_back k (at + 16) (behind p (w * m)) t (drop m items) (wide_drop w m items h) (omega arith) fits' table' blocks'))

    table_back : (k va : ℕ) (t : List ℕ) → length t ≡ 16 * k → (0 < k → Good (P ++ tail) graphics va (16 * k) t) → Table (P ++ tail) graphics va k t
    table_back zero va [] e f = no_table
    table_back zero va (x ∷ t) e f = absurd (omega arith)
    table_back (suc k) va t e f = table (f (omega arith))

    -- the list at the address of its header
    list_back : (end vft : ℕ) (items : List (List ℕ)) → Wide w items → length items + per ≤ 2 ^ 32
        → Stand P end (list_blocks end vft w items)
        → ListAt (P ++ tail) graphics (address (place_of end 48)) w items
    unfolding list_blocks front_blocks
    list_back end vft items h small blocks =
        let n : ℕ = length items in
        let k : ℕ = part_count w n in
        let row = list_row vft n (address (table_at end k)) (offsets_address (items_end end w n) k) k in
        let header = row_bytes row in
        let t = table_bytes w (parts_from end k) (part_counts k per n) in
        let parts = map cat (chunks k per items) in
        let offsets = offset_blocks (part_counts k per n) in
        let header-length : length header ≡ 48 = length_rows row in
        let t-length : length t ≡ 16 * k = table_length w (parts_from end k) k per n in
        let over : k * per + (n + (per - 1)) % per ≡ n + (per - 1) = div-add-mod' (n + (per - 1)) per in
        let below : (n + (per - 1)) % per < per = mod-lt (n + (per - 1)) room in
        let one : 1 ≤ per = omega arith in
        let some-parts : k * 1 ≤ k * per = mul-le-mul_left k one in
        let blocks₁ : Stand P (behind end 48) (t ∷ (parts ++ offsets)) = subst (λ (j : ℕ). Stand P (behind end j) (t ∷ (parts ++ offsets))) header-length blocks.1 in
        let header-held : Holds P (place_of end 48) header = subst (λ (j : ℕ). Holds P (place_of end j) header) header-length blocks.0 in
        let t-held : Holds P (table_at end k) t = subst (λ (j : ℕ). Holds P (place_of (behind end 48) j) t) t-length blocks₁.0 in
        let blocks₂ : Stand P (parts_from end k) (parts ++ offsets) = subst (λ (j : ℕ). Stand P (behind (behind end 48) j) (parts ++ offsets)) t-length blocks₁.1 in
        let count : le_at 4 header 8 ≡ n = field_back row 8 4 n (omega arith) refl ∙ omega arith in
        let va : le_at 8 header 0x10 ≡ address (table_at end k) =
        field_back row 0x10 8 (address (table_at end k)) (omega arith) refl ∙ omega (arith, held_end t-held) in
        let part-count : le_at 4 header 0x20 ≡ k = field_back row 0x20 4 k (omega arith) refl ∙ omega arith in
        record {
          header = header;
          parts = t;
          bytes = cat items;
          header_good = good 48 header-length (omega arith) header-held;
          parts_good = rw (va, part-count) (table_back k (address (table_at end k)) t t-length (λ some-k. good (16 * k) t-length (omega arith) t-held));
          items_good = rw part-count (parts_back k 0 (parts_from end k) t items h (omega arith) (omega arith) (all_held t) (stand_first P (parts_from end k) parts offsets blocks₂));
          adds_up = rw count (length_cat w items h);
          are = rw count (sym (cut_back w items h));
        }

    pub items_back : (end vft : ℕ) (items : List (List ℕ)) → Wide w items → length items + per ≤ 2 ^ 32
        → Stand P end (list_blocks end vft w items) → Items (P ++ tail) graphics w (address (place_of end 48)) items
    items_back end vft items h small blocks = let far : 0 < address (place_of end 48) = omega arith in some far (list_back end vft items h small blocks)
