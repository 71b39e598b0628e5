-- The laws of a list's blocks: sizes and lengths, what one turn of a loop over the parts does, and how a list is put together.
use Rattle.std.proofs.Common.{◌≡◌, ℕ, zero, suc, ◌+◌, ◌-◌, ◌*◌, ◌/◌, ◌%◌, ◌^◌, ◌<◌, ◌≤◌, min, List, [], ◌∷◌, ◌++◌, map, length, take, drop, sym, refl, ap, ◌∙◌, subst, div-lt_iff_lt-mul, add-mul, mul-le-mul_left, mul-zero, zero-mul, suc-mul, le-div_iff_mul-le, mul-suc, div-le_self, arith, length-append, length-drop, length-take-le, take_at, drop_at}
use Rattle.std.proofs.lemmas.Grind.{div_ceil_times}
use Rattle.std.proofs.Math.Nat.{div-eq_of_lt-le}
use native.Mathlib.Nat.{mul-div-le, div-add-mod, mod-lt, mul_comm}
use Rattle.fields.specs.Bytes.{les, le_bytes, cat, cut}
use Rattle.fields.specs.Put.{put}
use Rattle.fields.specs.Rows.{row_bytes}
use Rattle.fields.proofs.Bytes.{length_les}
use Rattle.fields.proofs.Puts.{put_next, put_number}
use Rattle.fields.proofs.Rows.{length_rows}
use Rattle.write_blocks.specs.Layout.{address, place_of, behind, end_of}
use Rattle.write_blocks.specs.Laid.{lengths, allocated, reached, sum_of, Laid}
use Rattle.write_blocks.specs.Lists.{per_part, part_count, part_counts, chunks, firsts, sizes, part_sizes, offset_sizes, list_sizes, table_at, parts_from, items_end, offsets_address, list_row, part_row, table_bytes, front_blocks, part_blocks, offset_blocks, list_blocks}
use Rattle.write_blocks.specs.ListRoom.{Wide, ListRoom}
use Rattle.write_blocks.specs.Optional.{size_of, address_of}
use Rattle.write_blocks.specs.Placed.{Small}
use Rattle.write_blocks.specs.declared.Layout.{Layout}
use Rattle.write_blocks.proofs.Optional.{size_some, address_some}
use Rattle.write_blocks.proofs.Layouts.{place_ge, end_ge, end_append, small_append, lengths_append, at_of, reached_at, laid_then, laid_end, one_end}

-- ---- how many items a part takes, and how many parts n items take

module _ (per n : ℕ) (some : 0 < per) where
  pub count_sum : n / per + min 1 (n % per) ≡ (n + (per - 1)) / per
  count_sum =
      let k : ℕ = n / per + min 1 (n % per) in
      let h = div_ceil_times n per some in
      sym (div-eq_of_lt-le {k = k} per {m = n + (per - 1)} (omega (arith, h)) (omega (arith, h, add-mul k 1 per)))

  pub count_le : (n + (per - 1)) / per ≤ n
  count_le =
      let m : n * 1 ≤ n * per = mul-le-mul_left n some in
      let l : n + (per - 1) < (n + 1) * per = omega (arith, add-mul n 1 per) in
      omega (arith, (div-lt_iff_lt-mul {k = per} {x = n + (per - 1)} {y = n + 1} some).1 l)

  -- so many parts have room for them
  pub count_ge : n ≤ (n + (per - 1)) / per * per
  count_ge =
      let q : ℕ = (n + (per - 1)) / per in
      omega (arith, div-add-mod (n + (per - 1)) per, mod-lt (n + (per - 1)) {m = per} some, mul_comm per q)

module _ (w : ℕ) (some : 1 ≤ w) (page : w ≤ 16384) where
  pub per_some : 1 ≤ per_part w
  per_some = (le-div_iff_mul-le {k = w} {x = 1} {y = 16384} some).1 (omega arith)

  pub per_page : per_part w ≤ 16384
  per_page = div-le_self 16384 w

  pub per_room : w * per_part w ≤ 16384
  per_room = mul-div-le 16384 w

  -- a part table of at most a page has at most 2^24 items
  pub few_items : (n : ℕ) → part_count w n ≤ 1024 → n ≤ 2 ^ 24
  few_items n h =
      let k : part_count w n < 1025 = omega arith in
      let l = (div-lt_iff_lt-mul {k = per_part w} {x = n + (per_part w - 1)} {y = 1025} per_some).0 k in
      omega (arith, per_page, per_some)

pub room_items : {end w n : ℕ} {ns : List ℕ} → ListRoom end w n ns → n ≤ 2 ^ 24
room_items {end} {w} {n} r = few_items w r.some r.page n r.table

-- ---- how many items all parts have

pub sum_counts_le : (k per n : ℕ) → sum_of (part_counts k per n) ≤ n
sum_counts_le zero per n = omega arith
sum_counts_le (suc k) per n = omega (arith, sum_counts_le k per (n - min per n))

pub sum_counts : (k per n : ℕ) → n ≤ k * per → sum_of (part_counts k per n) ≡ n
sum_counts zero per n h = omega (arith, zero-mul per)
sum_counts (suc k) per n h = omega (arith, sum_counts k per (n - min per n) (omega (arith, suc-mul k per)))

-- all of a list's items lie in its parts
pub sum_parts : (w n : ℕ) → 1 ≤ w → w ≤ 16384 → sum_of (part_counts (part_count w n) (per_part w) n) ≡ n
sum_parts w n some page = sum_counts (part_count w n) (per_part w) n (count_ge (per_part w) n (per_some w some page))

-- ---- the parts that are left have ms items: the first m, the others `rest`

module _ (ms rest : List ℕ) (m : ℕ) (is : ms ≡ m ∷ rest) where
  -- the end behind it and the rest
  pub end_turn : (w p : ℕ) → end_of p (sizes w ms) ≡ end_of (behind p (w * m)) (sizes w rest)
  end_turn w p = rw is

  pub reached_turn : (w : ℕ) (l : Layout) → reached l (sizes w ms) ≡ reached (allocated l (w * m)) (sizes w rest)
  reached_turn w l = rw is

  pub room_turn : (w p : ℕ) → behind p (w * m) ≤ end_of p (sizes w ms)
  room_turn w p = omega (arith, end_turn w p, end_ge (behind p (w * m)) (sizes w rest))

  pub sum_turn : sum_of ms ≡ m + sum_of rest
  sum_turn = rw is

  pub length_turn : length ms ≡ suc (length rest)
  length_turn = rw is

  -- its entry in the table, and the rest
  pub table_turn : (w a p : ℕ) (out : List ℕ)
      → put (a + 16) (table_bytes w (behind p (w * m)) rest) (put a (row_bytes (part_row (place_of p (w * m)) m)) out) ≡ put a (table_bytes w p ms) out
  unfolding table_bytes
  table_turn w a p out = rw is (put_next 16 a (row_bytes (part_row (place_of p (w * m)) m)) _ out (length_rows (part_row (place_of p (w * m)) m)))

  -- its first item number, and the rest
  pub offsets_turn : (a first : ℕ) (out : List ℕ)
      → put (a + 4) (les 4 (firsts (first + m) rest)) (put a (le_bytes 4 first) out) ≡ put a (les 4 (firsts first ms)) out
  unfolding les
  offsets_turn a first out = rw is (put_number a 4 first _ out)

-- ---- items in a row

pub length_cat : (w : ℕ) (items : List (List ℕ)) → Wide w items → length (cat items) ≡ w * length items
unfolding cat
length_cat w [] h = rw mul-zero
length_cat w (b ∷ items) h = rw (length-append, h.0, length_cat w items h.1, mul-suc) (omega arith)

pub wide_take : (w m : ℕ) (items : List (List ℕ)) → Wide w items → Wide w (take m items)
wide_take w zero items h = tt
wide_take w (suc m) [] h = tt
wide_take w (suc m) (b ∷ items) h = (h.0, wide_take w m items h.1)

pub wide_drop : (w m : ℕ) (items : List (List ℕ)) → Wide w items → Wide w (drop m items)
wide_drop w zero items h = h
wide_drop w (suc m) [] h = tt
wide_drop w (suc m) (b ∷ items) h = wide_drop w m items h.1

-- n items, cut from a row, are those that were put in a row
pub cut_back : (w : ℕ) (items : List (List ℕ)) → Wide w items → cut w (length items) (cat items) ≡ items
unfolding cat cut
cut_back w [] h = refl
cut_back w (b ∷ items) h = rw (take_at b (cat items) w h.0, drop_at b (cat items) w h.0, cut_back w items h.1)

-- ---- lengths

pub length_counts : (k per n : ℕ) → length (part_counts k per n) ≡ k
length_counts zero per n = refl
length_counts (suc k) per n = ap suc (length_counts k per (n - min per n))

pub length_table : (w end : ℕ) (ms : List ℕ) → length (table_bytes w end ms) ≡ 16 * length ms
unfolding table_bytes
length_table w end [] = rw mul-zero
length_table w end (m ∷ ms) =
    rw (length-append, length_rows (part_row (place_of end (w * m)) m), length_table w (behind end (w * m)) ms) (omega arith)

pub table_length : (w end k per n : ℕ) → length (table_bytes w end (part_counts k per n)) ≡ 16 * k
table_length w end k per n = length_table w end (part_counts k per n) ∙ ap (λ (j : ℕ). 16 * j) (length_counts k per n)

length_firsts : (f : ℕ) (ms : List ℕ) → length (firsts f ms) ≡ length ms
length_firsts f [] = refl
length_firsts f (m ∷ ms) = ap suc (length_firsts (f + m) ms)

pub offsets_length : (k per n : ℕ) → length (les 4 (firsts 0 (part_counts k per n))) ≡ 4 * k
offsets_length k per n = rw (length_les, length_firsts, length_counts)

-- ---- the offsets, where there is a part

pub sizes_some : (k : ℕ) → (k ≡ 0 → ⊥) → offset_sizes k ≡ 4 * k ∷ []
sizes_some zero h = absurd (h refl)
sizes_some (suc k) h = refl

-- which is the size of a block that stands only where there is something
pub sizes_optional : (k : ℕ) → size_of (4 * k) ≡ offset_sizes k
sizes_optional zero = refl
sizes_optional (suc k) = size_some (4 * suc k) (omega arith)

pub blocks_some : (k per n : ℕ) → (k ≡ 0 → ⊥) → offset_blocks (part_counts k per n) ≡ les 4 (firsts 0 (part_counts k per n)) ∷ []
blocks_some zero per n h = absurd (h refl)
blocks_some (suc k) per n h = refl

pub address_optional : (q k : ℕ) → address_of q (4 * k) ≡ offsets_address q k
address_optional q zero = refl
address_optional q (suc k) = address_some q (4 * suc k) (omega arith)

-- ---- the blocks of a list have the sizes that the number of items gives

front_lengths : (end vft w n : ℕ) → lengths (front_blocks end vft w n) ≡ 48 ∷ 16 * part_count w n ∷ []
unfolding front_blocks
front_lengths end vft w n =
    let k : ℕ = part_count w n in
    rw (length_rows (list_row vft n (address (table_at end k)) (offsets_address (items_end end w n) k) k), table_length w (parts_from end k) k (per_part w) n)

pub part_lengths : (w k per : ℕ) (items : List (List ℕ)) → Wide w items → lengths (map cat (chunks k per items)) ≡ sizes w (part_counts k per (length items))
part_lengths w zero per items h = refl
part_lengths w (suc k) per items h =
    let m = min per (length items) in
    rw (length_cat w (take m items) (wide_take w m items h), length-take-le m items (omega arith), part_lengths w k per (drop m items) (wide_drop w m items h), length-drop m items)

pub offset_lengths : (k per n : ℕ) → lengths (offset_blocks (part_counts k per n)) ≡ offset_sizes k
offset_lengths zero per n = refl
offset_lengths (suc k) per n = ap (λ (m : ℕ). m ∷ []) (offsets_length (suc k) per n)

pub list_lengths : (end vft w : ℕ) (items : List (List ℕ)) → Wide w items → lengths (list_blocks end vft w items) ≡ list_sizes w (length items)
unfolding list_blocks
list_lengths end vft w items h =
    let n : ℕ = length items in
    let k : ℕ = part_count w n in
    lengths_append (front_blocks end vft w n) (part_blocks w items ++ offset_blocks (part_counts k (per_part w) n))
    ∙ rw (front_lengths end vft w n, lengths_append (part_blocks w items), part_lengths w k (per_part w) items h, offset_lengths k (per_part w) n)

-- ---- where they stand, one behind the other

pub record Ends (end w n : ℕ) : Type 0 where
  pub header : end ≤ place_of end 48
  pub table : behind end 48 ≤ table_at end (part_count w n)
  pub parts : parts_from end (part_count w n) ≤ items_end end w n
  pub offsets : items_end end w n ≤ end_of end (list_sizes w n)
  pub end_is : end_of end (list_sizes w n) ≡ end_of (items_end end w n) (offset_sizes (part_count w n))

pub list_ends : (end w n : ℕ) → Ends end w n
list_ends end w n =
    let k : ℕ = part_count w n in
    let e = end_append (parts_from end k) (part_sizes w n) (offset_sizes k) in
    record {
      header = place_ge end 48;
      table = place_ge (behind end 48) (16 * k);
      parts = end_ge (parts_from end k) (part_sizes w n);
      offsets = omega (arith, e, end_ge (items_end end w n) (offset_sizes k));
      end_is = e;
    }

-- the layout behind its items ends there
pub items_at : (l : Layout) {r : Layout} (w n : ℕ) → r ≡ reached l (48 ∷ 16 * part_count w n ∷ part_sizes w n) → r.at ≡ items_end l.at w n
items_at l w n e = at_of e ∙ reached_at l (48 ∷ 16 * part_count w n ∷ part_sizes w n)

-- what a list's writers are asked for behind its front, and behind its items
pub room_parts : {end w n : ℕ} → ListRoom end w n (list_sizes w n) → ListRoom (parts_from end (part_count w n)) w n (part_sizes w n)
room_parts {end} {w} {n} r = record { some = r.some; page = r.page; table = r.table; below = omega (arith, list_ends end w n, r.below) }

pub room_offsets : {end w n : ℕ} → ListRoom end w n (list_sizes w n) → ListRoom (items_end end w n) w n (offset_sizes (part_count w n))
room_offsets {end} {w} {n} r = record { some = r.some; page = r.page; table = r.table; below = rw (list_ends end w n).end_is at r.below }

-- the offsets' block, where there is a part
pub offsets_below : {end w n : ℕ} (k : ℕ) → ListRoom end w n (offset_sizes (part_count w n)) → k ≡ part_count w n → (k ≡ 0 → ⊥) → behind end (4 * k) < 2 ^ 28
offsets_below {end} k r e some = let b : end_of end (offset_sizes k) < 2 ^ 28 = rw e r.below in rw (sizes_some k some) at b

-- the layout behind its front, and behind its items
pub front_end : {l m : Layout} (vft w n : ℕ) {xs ys : List ℕ} → Laid l (front_blocks l.at vft w n) m xs ys → m.at ≡ parts_from l.at (part_count w n)
front_end {l} vft w n f = laid_end f ∙ ap (end_of l.at) (front_lengths l.at vft w n)

pub items_end_lem : {l m : Layout} (w k per n : ℕ) (items : List (List ℕ)) {xs ys : List ℕ} → Wide w items → length items ≡ n
    → Laid l (map cat (chunks k per items)) m xs ys → m.at ≡ end_of l.at (sizes w (part_counts k per n))
items_end_lem {l} w k per n items h e f =
    laid_end f ∙ ap (end_of l.at) (part_lengths w k per items h) ∙ ap (λ (j : ℕ). end_of l.at (sizes w (part_counts k per j))) e

-- so the layout behind its front has room for its items, and the one behind those for its offsets
pub front_room : {l m : Layout} (vft w n : ℕ) {xs ys : List ℕ} → ListRoom l.at w n (list_sizes w n) → Laid l (front_blocks l.at vft w n) m xs ys
    → ListRoom m.at w n (part_sizes w n)
front_room vft w n r f = rw (front_end vft w n f) (room_parts r)

pub items_room : {l m q : Layout} (vft w n : ℕ) (items : List (List ℕ)) {xs ys zs : List ℕ} → ListRoom l.at w n (list_sizes w n) → Wide w items → length items ≡ n
    → Laid l (front_blocks l.at vft w n) m xs ys → Laid m (map cat (chunks (part_count w n) (per_part w) items)) q ys zs
    → ListRoom q.at w n (offset_sizes (part_count w n))
items_room vft w n items r wide e f g = rw (items_end_lem w (part_count w n) (per_part w) n items wide e g, front_end vft w n f) (room_offsets r)

-- behind its header
pub header_end : {l m : Layout} (vft n table offsets k : ℕ) {xs ys : List ℕ} → Laid l (row_bytes (list_row vft n table offsets k) ∷ []) m xs ys → m.at ≡ behind l.at 48
header_end vft n table offsets k f = one_end 48 (length_rows (list_row vft n table offsets k)) f

-- header and part table make the front
pub front_laid : {l m r : Layout} (vft w n table offsets k : ℕ) {xs ys zs : List ℕ}
    → k ≡ part_count w n → table ≡ table_at l.at (part_count w n) → offsets ≡ offsets_address (items_end l.at w n) (part_count w n)
    → Laid l (row_bytes (list_row vft n (address table) offsets k) ∷ []) m xs ys
    → Laid m (table_bytes w (behind m.at (16 * k)) (part_counts k (per_part w) n) ∷ []) r ys zs
    → Laid l (front_blocks l.at vft w n) r xs zs
unfolding front_blocks
front_laid {l} {m} {r} vft w n table offsets k {xs} {ys} {zs} parts t o header f =
    let at : m.at ≡ behind l.at 48 = header_end vft n (address table) offsets k header in
    let f₁ : Laid m (table_bytes w (behind (behind l.at 48) (16 * k)) (part_counts k (per_part w) n) ∷ []) r ys zs =
    subst (λ (j : ℕ). Laid m (table_bytes w (behind j (16 * k)) (part_counts k (per_part w) n) ∷ []) r ys zs) at f in
    laid_then (rw (t, o, parts) at header) (rw parts at f₁)

-- front, items and offsets make the list
pub list_laid : {l p q r : Layout} (vft w n : ℕ) (items : List (List ℕ)) {xs ys zs us : List ℕ} → length items ≡ n
    → Laid l (front_blocks l.at vft w n) p xs ys
    → Laid p (map cat (chunks (part_count w n) (per_part w) items)) q ys zs
    → Laid q (offset_blocks (part_counts (part_count w n) (per_part w) n)) r zs us
    → Laid l (list_blocks l.at vft w items) r xs us
unfolding list_blocks
list_laid {l} {p} {q} {r} vft w n items {xs} {ys} {zs} {us} e =
    subst (λ (j : ℕ). Laid l (front_blocks l.at vft w j) p xs ys
    → Laid p (map cat (chunks (part_count w j) (per_part w) items)) q ys zs
    → Laid q (offset_blocks (part_counts (part_count w j) (per_part w) j)) r zs us
    → Laid l (list_blocks l.at vft w items) r xs us) e
    (λ f g h. laid_then f (laid_then g h))

-- ---- each of a list's blocks takes at most a page

small_parts : (w per k n : ℕ) → w * per ≤ 16384 → Small (sizes w (part_counts k per n))
small_parts w per zero n h = tt
small_parts w per (suc k) n h =
    let m : min per n ≤ per = omega arith in
    let p : w * min per n ≤ w * per = mul-le-mul_left w m in
    (omega arith, small_parts w per k (n - min per n) h)

small_offsets : (k : ℕ) → k ≤ 1024 → Small (offset_sizes k)
small_offsets zero h = tt
small_offsets (suc k) h = (omega arith, tt)

pub list_small : (w n : ℕ) → part_count w n ≤ 1024 → Small (list_sizes w n)
list_small w n few =
    let k : ℕ = part_count w n in
    (omega arith, (omega arith, small_append (part_sizes w n) (offset_sizes k) (small_parts w (per_part w) k n (mul-div-le 16384 w)) (small_offsets k few)))
