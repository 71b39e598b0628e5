-- Polygons as their records are built, one after the other, and as the items of their list.
use Prim.Native.Nat.{ℕ, zero, suc, ◌+◌, ◌*◌, ◌-◌, ◌/◌, ◌%◌, ◌≤◌, ◌<◌}
use native.Mathlib.Omega.{arith}
use native.Mathlib.Nat.{zero-add, sub-zero}
use mathlib.Core.Path.{◌≡◌, refl, ap, sym, subst, ◌∙◌}
use mathlib.Core.Bool.{false}
use mathlib.Core.List.{List, [], ◌∷◌, ◌++◌, map, append-nil, append_assoc}
use lib.ListN.{length, take, drop, get_or}
use lib.Seq.{get_or-take, get_or-drop}
use Rattle.fields.specs.Bytes.{le_bytes, les, cat}
use Rattle.fields.specs.Put.{put}
use Rattle.fields.specs.Rows.{row_bytes, pack}
use Rattle.fields.proofs.Bytes.{le_pair, bytes_mod, le_zeros}
use Rattle.fields.proofs.Rows.{length_rows}
use Rattle.quarters.specs.Quarter.{bits16}
use Rattle.quarters.specs.Bounds.{fold, greatest, least_side}
use Rattle.quarters.proofs.Quarters.{side_fits}
use Rattle.math.specs.MinMax.{lesser}
use Rattle.write_leaf_counts.proofs.Picks.{bits_below}
use Rattle.strip.specs.Cell.{NavPoly}
use Rattle.strip.specs.Reading.{word, items_at, vec_at, poly_at, polygon_of, polygon_at}
use Rattle.strip.specs.Rows.{after, polygons_at, after_polygons}
use Rattle.strip.specs.declared.Poly.{Poly}
use Rattle.strip.proofs.Steps.{items_length, parts, after_ge}
use Rattle.strip.proofs.Lengths.{poly_count}
use Rattle.write_blocks.proofs.Lists.{length_cat}
use Rattle.write_blocks.proofs.Parts.{Filling, filling, filling_room, filling_turn, filled}
use Rattle.write_pages.specs.Items.{polys_per_part, box_of, gather, part_word, polygon_row, polygon_items}
use Rattle.write_pages.proofs.Sizes.{wide_polygons, length_polygons}
use Rattle.write_plan.specs.Plan.{sides, box_words, boxes}
use Rattle.write_plan.proofs.Rest.{length_boxes}
use Rattle.write_polygons.specs.Made.{pair_word, count_bits, polygon_words}
use Rattle.write_polygons.specs.Records.{start, following, past, records_at, Standing}
use Rattle.write_polygons.specs.declared.PolyCursor.{PolyCursor}

-- ---- the words' numbers

pub count_bits_lem : (v : ℕ) → v % 2048 * 32 ≡ count_bits v
unfolding pack
count_bits_lem v = omega arith

pub part_bits : (k links before : ℕ) → k / polys_per_part % 256 * 16 + links % 8 * 4096 + before % 131072 * 32768 ≡ part_word k links before
unfolding pack
part_bits k links before = omega arith

start_cut : (start own : ℕ) → pair_word (start % 65536) own ≡ pair_word start own
start_cut start own = omega arith

-- ---- a polygon's words are its bytes

pair_bytes : (a b : ℕ) → le_bytes 4 (pair_word a b) ≡ le_bytes 2 a ++ le_bytes 2 b
pair_bytes a b = le_pair (a % 65536) (b % 65536) (omega arith) ∙ (rw (bytes_mod 2 a, bytes_mod 2 b))

-- a polygon's words as they are put together
pub polygon_made : (s : List ℕ) (p : Poly) (own k start before x y z c first low second last : ℕ) → c ≡ count_bits p.vertices → first ≡ pair_word (word s p.flags_at) c
    → low ≡ start % 65536 → second ≡ pair_word low own → last ≡ part_word k p.links before
    → first ∷ second ∷ 0 ∷ 0 ∷ 0 ∷ 0 ∷ x ∷ y ∷ z ∷ word s (p.flags_at + 1) ∷ word s (p.flags_at + 2) ∷ last ∷ [] ≡ polygon_words own k start before x y z (polygon_of s p)
unfolding polygon_words polygon_of
polygon_made s p own k start before x y z c first low second last ec ef el es et =
    let v = items_length (vec_at s) (λ at. at + 3) p.vertices p.vertex_at in
    let l = items_length (word s) (λ at. at + 1) p.links p.link_at in
    rw (v, l, ef, ec, es, el, start_cut start own, et)

-- the min sides of a quarter box have 16 bits
pub record Narrow (p : NavPoly) : Type 0 where
  pub x : bits16 (box_of p).x_min < 65536
  pub y : bits16 (box_of p).y_min < 65536
  pub z : bits16 (box_of p).z_min < 65536

least_narrow : (ws : List ℕ) → bits16 (least_side ws) < 65536
least_narrow ws = bits_below (least_side ws) (side_fits false (fold lesser greatest ws))

narrow : (p : NavPoly) → Narrow p
unfolding box_of
narrow p = record { x = least_narrow (map (λ v. v.x) p.vertices); y = least_narrow (map (λ v. v.y) p.vertices); z = least_narrow (map (λ v. v.z) p.vertices) }

-- so the bytes of its words are those of the polygon's record
pub polygon_bytes : (own k start before : ℕ) (p : NavPoly)
    → les 4 (polygon_words own k start before (sides (box_of p).x_min (box_of p).x_max) (sides (box_of p).y_min (box_of p).y_max) (sides (box_of p).z_min (box_of p).z_max) p)
    ≡ row_bytes (polygon_row own k start before p)
unfolding polygon_words les row_bytes
polygon_bytes own k start before p =
    let h = narrow p in
    rw (
      pair_bytes p.flags0 (count_bits (length p.vertices)),
      pair_bytes start own,
      le_pair (bits16 (box_of p).x_min) (bits16 (box_of p).x_max) h.x,
      le_pair (bits16 (box_of p).y_min) (bits16 (box_of p).y_max) h.y,
      le_pair (bits16 (box_of p).z_min) (bits16 (box_of p).z_max) h.z,
    ) (simp (le_zeros, append_assoc, append-nil))

-- ---- the items of polygons from a cursor on

module _ (own : ℕ) (s : List ℕ) where
  -- the first of them, and the others
  pub records_first : (c : PolyCursor) (m : ℕ)
      → records_at own s c (suc m) ≡ row_bytes (polygon_row own c.number c.start c.links (polygon_at s c.at)) ∷ records_at own s (following c (poly_at s c.at)) m
  unfolding polygon_items items_at polygon_of
  records_first c m =
      let p = poly_at s c.at in
      let v = items_length (vec_at s) (λ at. at + 3) p.vertices p.vertex_at in
      let l = items_length (word s) (λ at. at + 1) p.links p.link_at in
      rw (v, l)

  pub length_records : (c : PolyCursor) (m : ℕ) → length (records_at own s c m) ≡ m
  length_records c m = length_polygons own c.number c.start c.links (polygons_at s c.at m) ∙ items_length (polygon_at s) (λ x. (poly_at s x).next) m c.at

  pub records_take : (c : PolyCursor) (m n : ℕ) → m ≤ n → take m (records_at own s c n) ≡ records_at own s c m
  unfolding polygon_items items_at
  records_take c zero n h = refl
  records_take c (suc m) zero h = absurd (omega arith)
  records_take c (suc m) (suc n) h =
      let b = row_bytes (polygon_row own c.number c.start c.links (polygon_at s c.at)) in
      ap (take (suc m)) (records_first c n) ∙ ap (λ (l : List (List ℕ)). b ∷ l) (records_take (following c (poly_at s c.at)) m n (omega arith)) ∙ sym (records_first c m)

  pub records_drop : (c : PolyCursor) (m n : ℕ) → m ≤ n → drop m (records_at own s c n) ≡ records_at own s (past s c m) (n - m)
  unfolding past
  records_drop c zero n h = rw (sub-zero n)
  records_drop c (suc m) zero h = absurd (omega arith)
  records_drop c (suc m) (suc n) h =
      let d : suc n - suc m ≡ n - m = omega arith in
      ap (drop (suc m)) (records_first c n) ∙ (rw d (records_drop (following c (poly_at s c.at)) m n (omega arith)))

  -- the bytes of m of them
  pub records_long : (c : PolyCursor) (m : ℕ) → length (cat (records_at own s c m)) ≡ 48 * m
  records_long c m =
      length_cat 48 (records_at own s c m) (wide_polygons own c.number c.start c.links (polygons_at s c.at m)) ∙ ap (λ (j : ℕ). 48 * j) (length_records c m)

-- ---- polygons that stand from a cursor on

module _ (s ws : List ℕ) where
  pub standing_next : (c : PolyCursor) (m : ℕ) → Standing s ws c (suc m) → Standing s ws (following c (poly_at s c.at)) m
  unfolding after
  standing_next c m g =
      let p = poly_at s c.at in
      let next : (i : ℕ) → c.number + 1 + i ≡ c.number + suc i = λ i. omega arith in
      record {
        inside = g.inside;
        few = omega (arith, parts s c.at p refl, g.few);
        long = omega (arith, g.long);
        boxed = λ i h. rw (next i) (g.boxed (suc i) (omega arith));
      }

  -- behind the first m of them
  pub standing_past : (c : PolyCursor) (m n : ℕ) → m ≤ n → Standing s ws c n → Standing s ws (past s c m) (n - m)
  unfolding past
  standing_past c zero n h g = rw (sub-zero n) g
  standing_past c (suc m) zero h g = absurd (omega arith)
  standing_past c (suc m) (suc n) h g =
      let d : suc n - suc m ≡ n - m = omega arith in
      rw d (standing_past (following c (poly_at s c.at)) m n (omega arith) (standing_next c n g))

  after_le : (at m n : ℕ) → m ≤ n → after_polygons s at m ≤ after_polygons s at n
  unfolding after
  after_le at zero n h = after_ge n s at
  after_le at (suc m) zero h = absurd (omega arith)
  after_le at (suc m) (suc n) h = after_le (poly_at s at).next m n (omega arith)

  -- the first m of them
  pub standing_part : (c : PolyCursor) (m n : ℕ) → m ≤ n → Standing s ws c n → Standing s ws c m
  standing_part c m n h g = record {
    inside = omega (arith, after_le c.at m n h, g.inside);
    few = g.few;
    long = omega (arith, g.long);
    boxed = λ i k. g.boxed i (omega arith);
  }

  -- the words of the first one's quarter box
  side_word : (c : PolyCursor) (m : ℕ) → Standing s ws c (suc m) → (j : ℕ) → j < 3 → get_or ws (3 * c.number + j) 0 ≡ get_or (box_words (box_of (polygon_at s c.at))) j 0
  unfolding after
  side_word c m g j h =
      let e : 3 * (c.number + 0) ≡ 3 * c.number = omega arith in
      let b : take 3 (drop (3 * c.number) ws) ≡ box_words (box_of (polygon_at s c.at)) = rw e at (g.boxed 0 (omega arith)) in
      sym (get_or-drop (3 * c.number) ws j 0) ∙ sym (get_or-take 3 (drop (3 * c.number) ws) j 0 h) ∙ ap (λ (l : List ℕ). get_or l j 0) b

  -- so the bytes that are made of them are its record
  pub standing_bytes : (own : ℕ) (c : PolyCursor) (m : ℕ) → Standing s ws c (suc m)
      → les 4 (polygon_words own c.number c.start c.links (get_or ws (3 * c.number) 0) (get_or ws (3 * c.number + 1) 0) (get_or ws (3 * c.number + 2) 0) (polygon_at s c.at))
      ≡ row_bytes (polygon_row own c.number c.start c.links (polygon_at s c.at))
  unfolding box_words
  standing_bytes own c m g =
      let p = polygon_at s c.at in
      let e : 3 * c.number + 0 ≡ 3 * c.number = omega arith in
      let x : get_or ws (3 * c.number) 0 ≡ sides (box_of p).x_min (box_of p).x_max = rw e at (side_word c m g 0 (omega arith)) in
      let y : get_or ws (3 * c.number + 1) 0 ≡ sides (box_of p).y_min (box_of p).y_max = side_word c m g 1 (omega arith) in
      let z : get_or ws (3 * c.number + 2) 0 ≡ sides (box_of p).z_min (box_of p).z_max = side_word c m g 2 (omega arith) in
      rw (x, y, z) (polygon_bytes own c.number c.start c.links p)

-- ---- at the first polygon

boxes_word : (s : List ℕ) (n i at : ℕ) → i < n → take 3 (drop (3 * i) (boxes (polygons_at s at n))) ≡ box_words (box_of (polygon_at s (after_polygons s at i)))
unfolding gather items_at after box_words
boxes_word s zero i at h = absurd (omega arith)
boxes_word s (suc n) zero at h = refl
boxes_word s (suc n) (suc i) at h =
    let e : 3 * suc i ≡ suc (suc (suc (3 * i))) = omega arith in
    rw e (boxes_word s n i (poly_at s at).next (omega arith))

pub standing_start : (s ws : List ℕ) (n : ℕ) → after_polygons s 14 n ≤ length s → ws ≡ boxes (polygons_at s 14 n) → Standing s ws start n
standing_start s ws n h e = record {
  inside = h;
  few = omega arith;
  long = omega (arith, ap length e, length_boxes (polygons_at s 14 n), poly_count s n);
  boxed = λ i k. rw (zero-add i, e) (boxes_word s n i 14 k);
}

-- ---- the records of m polygons from c on, built one after the other from `at` on. Before those from `next` on, of which there are `left`

pub record Recording (own : ℕ) (s ws : List ℕ) (c : PolyCursor) (m at : ℕ) (out₀ out : List ℕ) (next : PolyCursor) (to left : ℕ) : Type 0 where
  pub stands : Standing s ws next left
  pub ahead : past s next left ≡ past s c m
  pub fill : Filling 48 at (records_at own s c m) out₀ out to (records_at own s next left)

-- what the code asks for at the polygon p: its record stands in the strip, its sides in the words, no sum wraps, and its bytes end by `end`
pub record Roomy (s ws : List ℕ) (next : PolyCursor) (to end : ℕ) (p : Poly) : Type 0 where
  pub inside : next.at < length s
  pub flags : p.flags_at + 3 ≤ length s
  pub sums : next.number + 1 + (next.start + p.vertices) + (next.links + p.links) ≤ length s
  pub sides : 3 * next.number + 3 ≤ length ws
  pub bytes : to + 48 ≤ end

module _ (own : ℕ) (s ws : List ℕ) (c : PolyCursor) (m at : ℕ) (out₀ : List ℕ) where
  pub recording : Standing s ws c m → Recording own s ws c m at out₀ out₀ c at m
  recording g = record { stands = g; ahead = refl; fill = filling 48 at (records_at own s c m) out₀ }

  module _ (out : List ℕ) (next : PolyCursor) (to left : ℕ) (g : Recording own s ws c m at out₀ out next to left) where
    module _ (some : 0 < left) where
      one : left ≡ suc (left - 1)
      one = omega arith

      stands_one : Standing s ws next (suc (left - 1))
      stands_one = subst (Standing s ws next) one g.stands

      pub recording_room : (p : Poly) → p ≡ poly_at s next.at → Roomy s ws next to (at + 48 * m) p
      recording_room p e =
          let q = (standing_next s ws next (left - 1) stands_one).inside in
          let f = filling_room 48 at (records_at own s c m) out₀ out to _ g.fill _ _ (ap (records_at own s next) one ∙ records_first own s next (left - 1)) in
          let near : (poly_at s next.at).next ≤ length s = omega (arith, after_ge (left - 1) s (poly_at s next.at).next) in
          rw e (record {
            inside = omega (arith, parts s next.at (poly_at s next.at) refl);
            flags = omega (arith, parts s next.at (poly_at s next.at) refl);
            sums = omega (arith, parts s next.at (poly_at s next.at) refl, g.stands.few);
            sides = omega (arith, g.stands.long);
            bytes = rw (length_records own s c m) at f;
          })

      pub recording_turn : (p : Poly) → p ≡ poly_at s next.at → (out' : List ℕ)
          → out' ≡ put to (les 4 (polygon_words own next.number next.start next.links (get_or ws (3 * next.number) 0) (get_or ws (3 * next.number + 1) 0) (get_or ws (3 * next.number + 2) 0) (polygon_of s p))) out
          → Recording own s ws c m at out₀ out' (following next p) (to + 48) (left - 1)
      unfolding past
      recording_turn p e out' is =
          let row : List ℕ = row_bytes (polygon_row own next.number next.start next.links (polygon_at s next.at)) in
          let made : out' ≡ put to row out = rw (e, standing_bytes s ws own next (left - 1) stands_one) at is in
          rw e (record {
            stands = standing_next s ws next (left - 1) stands_one;
            ahead = ap (past s next) (sym one) ∙ g.ahead;
            fill = filling_turn 48 at (records_at own s c m) out₀ out to _ g.fill _ _ (ap (records_at own s next) one ∙ records_first own s next (left - 1)) (length_rows (polygon_row own next.number next.start next.links (polygon_at s next.at))) out' made;
          })

    none_left : left ≤ 0 → left ≡ 0
    none_left h = omega arith

    pub recorded : left ≤ 0 → out ≡ put at (cat (records_at own s c m)) out₀
    unfolding items_at polygon_items
    recorded h = filled 48 at (records_at own s c m) out₀ out to _ g.fill (ap (records_at own s next) (none_left h))

    pub recorded_past : left ≤ 0 → next ≡ past s c m
    unfolding past
    recorded_past h = ap (past s next) (sym (none_left h)) ∙ g.ahead
