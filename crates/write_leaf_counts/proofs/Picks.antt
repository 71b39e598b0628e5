-- Counting by a test, one turn at a time, and the test of a leaf's quarter box on words. Assumes nothing.
use Prim.Native.Nat.{ℕ, zero, suc, ◌+◌, ◌-◌, ◌*◌, ◌/◌, ◌%◌, ◌≤◌, ◌<◌}
use mathlib.Core.Path.{◌≡◌, refl, sym, ap, ◌∙◌}
use mathlib.Core.Bool.{Bool, true, false, cond}
use mathlib.Core.List.{List, [], ◌∷◌, ◌++◌}
use native.Mathlib.Omega.{arith}
use lib.IntN.{ℤ, pos, negsuc}
use lib.Signed.{le_z, mag}
use lib.Dec.{eqb, ltb}
use lib.ListN.{length, get_or, length-append, get_or-append}
use Rattle.std.proofs.lemmas.List.{get_or-append-add}
use borrow.Author.Tests.{eq-eqb, ne_eqb, eqb-true, eqb-false, lt-ltb, le-ltb, ltb-true, ltb-false}
use mir.Syntax.{w16}
use mir.Val.{SFits, to_z, of_z, bool_byte}
use mir.ValLaws.{to_z-of_z}
use Rattle.quarters.specs.Quarter.{bits16}
use Rattle.quarters.specs.Int16.{int16}
use Rattle.quarters.specs.declared.quarter.QuarterBox.{QuarterBox}
use Rattle.strip.specs.Cell.{NavPoint}
use Rattle.strip.specs.Reading.{items_at}
use Rattle.write_pages.specs.Sectors.{axis_meets, meets, leaf_ids}
use Rattle.write_pages.proofs.Lists.{keep_length}
use Rattle.write_leaf_counts.specs.Work.{box_at, boxes_at, boxes_in, picked_from, count_in}

-- ---- one turn

eqb_swapped : (a b : ℕ) (t : Bool) → eqb a b ≡ t → eqb a b ≡ eqb b a
eqb_swapped a b true e = e ∙ sym (eq-eqb b a (sym (eqb-true a b e)))
eqb_swapped a b false e = e ∙ sym (ne_eqb b a (λ q. eqb-false a b e (sym q)))

-- a test as a number
pub byte_is : (b : Bool) → ◌≡◌ {A = ℕ} (bool_byte b) (cond b 1 0)
byte_is true = refl
byte_is false = refl

pub keep_one : (b : Bool) → cond b 1 0 ≤ 1
keep_one true = omega arith
keep_one false = omega arith

-- whichever number a test names first
pub one_swapped : (a b : ℕ) → ◌≡◌ {A = ℕ} (cond (eqb a b) 1 0) (cond (eqb b a) 1 0)
one_swapped a b = ap (λ (t : Bool). cond {A = ℕ} t 1 0) (eqb_swapped a b (eqb a b) refl)

pub keep_few : {A : Type 0} (b : Bool) (x : A) (xs : List A) (n : ℕ) → length xs ≤ n → length (cond b (x ∷ xs) xs) ≤ suc n
keep_few b x xs n h = omega (arith, keep_length b x xs, keep_one b)

-- n items from a place on, of which i are passed
pub items_turn : {A : Type 0} (item : ℕ → A) (size i n : ℕ) → i < n
    → items_at item (λ at. at + size) (size * i) (n - i) ≡ item (size * i) ∷ items_at item (λ at. at + size) (size * (i + 1)) (n - (i + 1))
unfolding items_at
items_turn item size i n h =
    let e : n - i ≡ suc (n - (i + 1)) = omega arith in
    let f : size * (i + 1) ≡ size * i + size = omega arith in
    rw (e, f)

-- ---- ids

module _ (w : List ℕ) (q : QuarterBox) where
  pub ids_turn : (i n : ℕ) → i < n → leaf_ids q i (boxes_at w (3 * i) (n - i))
      ≡ cond (meets q (box_at w (3 * i))) (i ∷ leaf_ids q (i + 1) (boxes_at w (3 * (i + 1)) (n - (i + 1)))) (leaf_ids q (i + 1) (boxes_at w (3 * (i + 1)) (n - (i + 1))))
  unfolding leaf_ids
  ids_turn i n h = rw (items_turn (box_at w) 3 i n h)

  pub ids_end : (i n : ℕ) → n ≤ i → leaf_ids q i (boxes_at w (3 * i) (n - i)) ≡ []
  unfolding leaf_ids items_at
  ids_end i n h = let e : n - i ≡ 0 = omega arith in rw e

  pub ids_none : length w < 3 → leaf_ids q 0 (boxes_in w) ≡ []
  unfolding leaf_ids items_at
  ids_none h = let e : length w / 3 ≡ 0 = omega arith in rw e

  -- counted
  pub count_ids_turn : (i n : ℕ) → i < n → length (leaf_ids q i (boxes_at w (3 * i) (n - i)))
      ≡ cond (meets q (box_at w (3 * i))) 1 0 + length (leaf_ids q (i + 1) (boxes_at w (3 * (i + 1)) (n - (i + 1))))
  count_ids_turn i n h = ap length (ids_turn i n h) ∙ keep_length (meets q (box_at w (3 * i))) i (leaf_ids q (i + 1) (boxes_at w (3 * (i + 1)) (n - (i + 1))))

-- ---- points

module _ (w : List ℕ) (k : ℕ) where
  pub count_turn : (i n : ℕ) → i < n → count_in w k i (n - i) ≡ cond (eqb (get_or w i 0) k) 1 0 + count_in w k (i + 1) (n - (i + 1))
  unfolding count_in
  count_turn i n h = let e : n - i ≡ suc (n - (i + 1)) = omega arith in rw e

  pub count_end : (i n : ℕ) → n ≤ i → count_in w k i (n - i) ≡ 0
  unfolding count_in
  count_end i n h = let e : n - i ≡ 0 = omega arith in rw e

  -- counted in parts
  count_parts : (i m n : ℕ) → count_in w k i (m + n) ≡ count_in w k i m + count_in w k (i + m) n
  unfolding count_in
  count_parts i zero n =
      let e : 0 + n ≡ n = omega arith in
      let f : i + 0 ≡ i = omega arith in
      rw (e, f) (omega arith)
  count_parts i (suc m) n =
      let e : suc m + n ≡ suc (m + n) = omega arith in
      let f : i + suc m ≡ i + 1 + m = omega arith in
      rw (e, f) (omega (arith, count_parts (i + 1) m n))

  pub count_none : (n : ℕ) → n ≡ 0 → count_in w k 0 n ≡ 0
  unfolding count_in
  count_none n e = rw e

  pub count_few : (i n : ℕ) → count_in w k i n ≤ n
  unfolding count_in
  count_few i zero = omega arith
  count_few i (suc n) = omega (arith, keep_one (eqb (get_or w i 0) k), count_few (i + 1) n)

  -- the count is that of the points, whatever they are
  pub count_picked : (i : ℕ) (ts : List NavPoint) → count_in w k i (length ts) ≡ length (picked_from w k i ts)
  unfolding count_in picked_from
  count_picked i [] = refl
  count_picked i (t ∷ ts) = rw (count_picked (i + 1) ts, keep_length (eqb (get_or w i 0) k) t (picked_from w k (i + 1) ts))

-- of a part, and of what is behind it
module _ (k : ℕ) where
  count_front : (xs ys : List ℕ) (i n : ℕ) → i + n ≤ length xs → count_in (xs ++ ys) k i n ≡ count_in xs k i n
  unfolding count_in
  count_front xs ys i zero h = refl
  count_front xs ys i (suc n) h = rw (get_or-append xs ys 0 i (omega arith), count_front xs ys (i + 1) n (omega arith))

  count_back : (xs ys : List ℕ) (i j n : ℕ) → j ≡ length xs + i → count_in (xs ++ ys) k j n ≡ count_in ys k i n
  unfolding count_in
  count_back xs ys i j zero e = refl
  count_back xs ys i j (suc n) e = rw (e, get_or-append-add xs ys i 0, count_back xs ys (i + 1) (length xs + i + 1) n (omega arith))

  pub count_append : (xs ys : List ℕ) → count_in (xs ++ ys) k 0 (length (xs ++ ys)) ≡ count_in xs k 0 (length xs) + count_in ys k 0 (length ys)
  count_append xs ys =
      let whole = count_parts (xs ++ ys) k 0 (length xs) (length ys) in
      rw (length-append xs ys) (omega (arith, whole, count_front xs ys 0 (length xs) (omega arith), count_back xs ys 0 (0 + length xs) (length ys) (omega arith)))

-- ---- no leaf has more than the cell

pub ids_few : (q : QuarterBox) (k : ℕ) (ps : List QuarterBox) → length (leaf_ids q k ps) ≤ length ps
unfolding leaf_ids
ids_few q k [] = omega arith
ids_few q k (p ∷ ps) = keep_few (meets q p) k (leaf_ids q (k + 1) ps) (length ps) (ids_few q (k + 1) ps)

pub picked_few : (w : List ℕ) (k i : ℕ) (ts : List NavPoint) → length (picked_from w k i ts) ≤ length ts
unfolding picked_from
picked_few w k i [] = omega arith
picked_few w k i (t ∷ ts) = keep_few (eqb (get_or w i 0) k) t (picked_from w k (i + 1) ts) (length ts) (picked_few w k (i + 1) ts)

-- ---- the test of a polygon's box, axis by axis

-- a leaf's range and a polygon's, which a word holds
abbrev pub axis_of : (min max : ℤ) → ℕ → Bool
axis_of min max sides = axis_meets min max (int16 (sides % 65536)) (int16 (sides / 65536))

module _ (a b c d : ℤ) where
  pub axis_yes : le_z a d ≡ true → axis_meets a b c d ≡ le_z c b
  unfolding axis_meets
  axis_yes h = rw h

  pub axis_no : le_z a d ≡ false → axis_meets a b c d ≡ false
  unfolding axis_meets
  axis_no h = rw h

module _ (w : List ℕ) (at : ℕ) (q : QuarterBox) where
  pub meets_yes : axis_of q.x_min q.x_max (get_or w at 0) ≡ true → meets q (box_at w at) ≡ axis_of q.y_min q.y_max (get_or w (at + 1) 0)
  unfolding meets
  meets_yes h = rw h

  pub meets_no : axis_of q.x_min q.x_max (get_or w at 0) ≡ false → meets q (box_at w at) ≡ false
  unfolding meets
  meets_no h = rw h

-- ---- a word holds its two sides

-- 16 signed bits
pub bits_below : (z : ℤ) → mag z < 32768 → bits16 z < 65536
bits_below (pos n) h = omega arith
bits_below (negsuc n) h = omega arith

pub int_bits : (z : ℤ) → mag z < 32768 → int16 (bits16 z) ≡ z
int_bits (pos n) h = rw (lt-ltb n 32768 h)
int_bits (negsuc n) h = rw (le-ltb (65535 - n) 32768 (omega arith)) (ap negsuc (omega arith))

-- the machine reads them back
int_fits : (n : ℕ) (s : Bool) → ltb n 32768 ≡ s → n < 65536 → SFits w16 (cond s (pos n) (negsuc (65535 - n)))
int_fits n true e h = record { sfits = ltb-true n 32768 e }
int_fits n false e h = record { sfits = omega (arith, ltb-false n 32768 e) }

pub int_read : (n : ℕ) (r : ℤ) → n < 65536 → r ≡ int16 n → to_z w16 (of_z w16 r) ≡ int16 n
int_read n r h e = ap (λ (z : ℤ). to_z w16 (of_z w16 z)) e ∙ to_z-of_z w16 (int16 n) (int_fits n (ltb n 32768) refl h)

module _ (a b : ℤ) (ha : mag a < 32768) (hb : mag b < 32768) (x : ℕ) (e : x ≡ bits16 a + 65536 * bits16 b) where
  pub low_side : int16 (x % 65536) ≡ a
  low_side = let l : x % 65536 ≡ bits16 a = omega (arith, bits_below a ha) in ap int16 l ∙ int_bits a ha

  pub high_side : int16 (x / 65536) ≡ b
  high_side = let l : x / 65536 ≡ bits16 b = omega (arith, bits_below a ha) in ap int16 l ∙ int_bits b hb
