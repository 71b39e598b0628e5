-- The laws of lists: how long the bytes of good parts are, which part holds an item, and the items of a run that lies inside one part.
use Prim.Native.Nat.{ℕ, zero, suc, ◌+◌, ◌-◌, ◌*◌, ◌^◌, ◌≤◌, ◌<◌}
use native.Mathlib.Nat.{add_assoc, zero-add, suc-add, mul-add, mul-one, mul-zero, mul-le-mul_left, mul-le-mul_right, eq-or-lt_of_le, pos_of_ne-zero}
use native.Mathlib.Numerals.{add-one, unary_clauses}
use native.Mathlib.Omega.{arith}
use mathlib.Core.Path.{◌≡◌, refl, sym, ap, ◌∙◌}
use mathlib.Core.Bool.{Bool, true, false, ◌||◌, and-eq-true_iff}
use mathlib.Core.List.{List, [], ◌∷◌}
use mathlib.Core.Logic.{⊎_elim}
use lib.ListN.{length, take, drop, length-append, length-drop}
use lib.Dec.{eqb}
use lib.Seq.{take_all, take-nil, drop-drop, drop-append-le, take-append-le, drop-append-add, length-take-le, get_or-take, get_or-drop, take-take}
use borrow.Author.Rules.{part_to_end}
use borrow.Author.Tests.{ne_eqb, eqb-true, eqb-false}
use Rattle.fields.specs.Bytes.{le_at}
use Rattle.fields.proofs.Bytes.{same}
use Rattle.resource.specs.Section.{resolved, good}
use Rattle.resource.proofs.Parts.{good_length, bad_empty, short_bad, full_good}
use Rattle.read_lists.specs.declared.Cursor.{Cursor}
use Rattle.read_lists.specs.Lists.{item, count_at, address_at, parts, before, total, readable_at, part_bytes, part_good, bytes_to, good_to, all_good, list_bytes}
use Rattle.read_lists.specs.Listed.{Readable}
use Rattle.read_lists.specs.Cursors.{AtPart, Holds}

-- ---- parts that are there

module _ (system graphics : List ℕ) (va n : ℕ) where
  pub resolved_most : length (resolved system graphics va n) ≤ n
  resolved_most = by (good system graphics va n) refl
    where
      by : (b : Bool) → good system graphics va n ≡ b → length (resolved system graphics va n) ≤ n
      by true e = omega (arith, good_length system graphics va n e)
      by false e = omega (arith, ap length (bad_empty system graphics va n e))

  pub whole_of : n ≤ length (resolved system graphics va n) → readable_at system graphics va n ≡ true
  unfolding readable_at
  whole_of h = by (eqb n 0) refl
    where
      by : (b : Bool) → eqb n 0 ≡ b → (b || good system graphics va n) ≡ true
      by true e = refl
      by false e = full_good system graphics va n (pos_of_ne-zero (eqb-false n 0 e)) h

  pub not_whole : length (resolved system graphics va n) < n → readable_at system graphics va n ≡ false
  unfolding readable_at
  not_whole h = rw (ne_eqb n 0 (λ z. omega arith)) (short_bad system graphics va n h)

  pub length_whole : readable_at system graphics va n ≡ true → length (resolved system graphics va n) ≡ n
  unfolding readable_at
  length_whole = by (eqb n 0) refl
    where
      by : (b : Bool) → eqb n 0 ≡ b → (b || good system graphics va n) ≡ true → length (resolved system graphics va n) ≡ n
      by true e h = omega (arith, eqb-true n 0 e, resolved_most)
      by false e h = good_length system graphics va n h

  -- a part that isn't empty
  pub whole_good : 0 < n → readable_at system graphics va n ≡ true → good system graphics va n ≡ true
  unfolding readable_at
  whole_good some h = rw (ne_eqb n 0 (λ z. omega arith)) at h

-- ---- counts

pub before_next : (table : List ℕ) (k : ℕ) → before table (k + 1) ≡ before table k + count_at table k
unfolding before
before_next table k = rw (add-one k)

pub before_up : (table : List ℕ) (k m : ℕ) → k ≤ m → before table k ≤ before table m
unfolding before
before_up table k zero h = let e : k ≡ 0 = omega arith in rw e (omega arith)
before_up table k (suc m) h = ⊎_elim (λ e. rw e (omega arith)) (λ l. let i = before_up table k m (omega arith) in omega arith) (eq-or-lt_of_le h)

-- a product that fits 64 bits
pub product : {a b : ℕ} → a < 65536 → b < 2 ^ 32 → a * b < 2 ^ 64
product {a} {b} p q = let m : a * b ≤ 65535 * b = mul-le-mul_right b (omega arith) in omega arith

-- items i to n, in bytes
bytes_between : (size : ℕ) {i n : ℕ} → i ≤ n → size * n ≡ size * i + size * (n - i)
bytes_between size {i} {n} h = let e : n ≡ i + (n - i) = omega arith in ap (λ (x : ℕ). size * x) e ∙ mul-add size i (n - i)

-- ---- the bytes of good parts

module _ (system graphics : List ℕ) (size : ℕ) (table : List ℕ) where
  pub good_both : (k : ℕ) → good_to system graphics size table (suc k) ≡ true → (good_to system graphics size table k ≡ true) × (part_good system graphics size table k ≡ true)
  unfolding good_to
  good_both k = (and-eq-true_iff (good_to system graphics size table k) (part_good system graphics size table k)).0

  pub part_good_lem : (k m : ℕ) → k < m → good_to system graphics size table m ≡ true → part_good system graphics size table k ≡ true
  part_good_lem k zero h g = absurd (omega arith)
  part_good_lem k (suc m) h g =
      let (a, b) = good_both m g in
      let l : k ≤ m = omega arith in
      ⊎_elim (λ e. rw e b) (λ l. part_good_lem k m l a) (eq-or-lt_of_le l)

  pub length_part : (k : ℕ) → part_good system graphics size table k ≡ true → length (part_bytes system graphics size table k) ≡ size * count_at table k
  unfolding part_good part_bytes
  length_part k g = length_whole system graphics (address_at table k) (size * count_at table k) g

  pub length_bytes : (k : ℕ) → good_to system graphics size table k ≡ true → length (bytes_to system graphics size table k) ≡ size * before table k
  unfolding bytes_to before
  length_bytes zero g = rw mul-zero
  length_bytes (suc k) g =
      let (a, b) = good_both k g in
      rw (length-append, mul-add, length_bytes k a, length_part k b)

  pub length_list : all_good system graphics size table ≡ true → length (list_bytes system graphics size table) ≡ size * total table
  unfolding list_bytes
  length_list g = length_bytes (parts table) g

  -- the items of part k from number i on are the end of that part
  pub run_in : (k m i : ℕ) → k < m → good_to system graphics size table m ≡ true → before table k ≤ i → i ≤ before table k + count_at table k
      → take (size * (before table k + count_at table k - i)) (drop (size * i) (bytes_to system graphics size table m))
      ≡ drop (size * (i - before table k)) (part_bytes system graphics size table k)
  unfolding bytes_to
  run_in k zero i h g lo hi = absurd (omega arith)
  run_in k (suc m) i h g lo hi =
      let (a, b) = good_both m g in
      let front : List ℕ = bytes_to system graphics size table m in
      let part : List ℕ = part_bytes system graphics size table m in
      let n : ℕ = before table k + count_at table k in
      let long : length front ≡ size * before table m = length_bytes m a in
      let l : k ≤ m = omega arith in
      ⊎_elim
      (λ e.
      let here : length part ≡ size * count_at table k = length_part m b ∙ ap (λ (x : ℕ). size * count_at table x) (sym e) in
      let off : size * i ≡ length front + size * (i - before table k) = bytes_between size lo ∙ ap (λ (x : ℕ). size * before table x + size * (i - before table k)) e ∙ ap (λ (x : ℕ). x + size * (i - before table k)) (sym long) in
      let split : size * n ≡ size * before table k + size * count_at table k = mul-add size (before table k) (count_at table k) in
      let short : length (drop (size * (i - before table k)) part) ≤ size * (n - i) = rw length-drop (omega (arith, here, bytes_between size lo, bytes_between size hi, split)) in
      rw (off, drop-append-add front part (size * (i - before table k)), take_all _ _ short) (ap (λ (x : ℕ). drop (size * (i - before table k)) (part_bytes system graphics size table x)) (sym e)))
      (λ (l : k < m).
      let up : n ≤ before table m = rw (before_next table k) at (before_up table (k + 1) m (omega arith)) in
      let far : size * n ≤ size * before table m = mul-le-mul_left size up in
      let between : size * n ≡ size * i + size * (n - i) = bytes_between size hi in
      let from : size * i ≤ length front = omega arith in
      let room : size * (n - i) ≤ length (drop (size * i) front) = rw length-drop (omega arith) in
      rw (drop-append-le (size * i) front part from, take-append-le (size * (n - i)) (drop (size * i) front) part room) (run_in k m i l a lo hi))
      (eq-or-lt_of_le l)

-- ---- items

-- a field of an item is a field of the bytes
pub item_field : (size : ℕ) (bytes : List ℕ) (i w off : ℕ) → off + w ≤ size → le_at w (item size bytes i) off ≡ le_at w bytes (size * i + off)
unfolding item
item_field size bytes i w off f =
    same w (take size (drop (size * i) bytes)) off bytes (size * i + off)
    (λ k l. rw (get_or-take size (drop (size * i) bytes) (off + k) 0 (omega arith), get_or-drop, add_assoc))

-- ---- cursors

some_before : (table : List ℕ) (k : ℕ) {i : ℕ} → i < before table k → 0 < k
unfolding before
some_before table zero h = absurd (omega arith)
some_before table (suc k) h = omega arith

before_back : (table : List ℕ) (k : ℕ) → 0 < k → before table k ≡ before table (k - 1) + count_at table (k - 1)
unfolding before
before_back table zero h = absurd (omega arith)
before_back table (suc k) h = simp unary_clauses

module _ {table : List ℕ} {c : Cursor} (s : AtPart table c) where
  pub back : {i : ℕ} → i < c.first → (0 < c.part) × (c.first ≡ before table (c.part - 1) + count_at table (c.part - 1))
  back h =
      let some = some_before table c.part (rw s.first_is at h) in
      (some, s.first_is ∙ before_back table c.part some)

  pub next : c.first + c.count ≡ before table (c.part + 1)
  next = rw (s.first_is, s.count) (sym (before_next table c.part))

  -- a cursor at or before an item of the list stands at a part
  pub inside_of : {i : ℕ} → c.first ≤ i → i < total table → c.part < parts table
  inside_of lo l =
      ⊎_elim (λ z. let f : c.first ≡ total table = s.first_is ∙ ap (before table) z in absurd (omega arith)) (λ m. m) (eq-or-lt_of_le s.inside)

  pub within : c.part < parts table → c.first + c.count ≤ total table
  within m = rw next (before_up table (c.part + 1) (parts table) (omega arith))

  pub forth : {i : ℕ} → c.first ≤ i → c.first + c.count ≤ i → i < total table → c.part + 1 ≤ parts table
  forth lo h l = let m = inside_of lo l in omega arith

-- ---- the items of a cursor's part

module _ (system graphics : List ℕ) (size : ℕ) (table : List ℕ) (r : Readable system graphics size table) {i : ℕ} {c : Cursor} (h : Holds table i c) where
  count_small : c.count < 2 ^ 32
  count_small = omega (arith, within h.stands h.inside, r.few)

  pub part_fits : size * c.count < 2 ^ 64
  part_fits = product r.small count_small

  -- it is good, since it isn't empty
  pub is_good : 0 < size → good system graphics c.address (size * c.count) ≡ true
  unfolding part_good
  is_good some =
      let lo = h.low in
      let hi = h.high in
      let one : size * 1 ≤ size * c.count = mul-le-mul_left size (omega arith) in
      let all = part_good_lem system graphics size table c.part (parts table) h.inside r.good in
      whole_good system graphics c.address (size * c.count) (omega (arith, mul-one size)) (rw (h.stands.address, h.stands.count) all)

  pub offset_fits : size * (i - c.first) < 2 ^ 64
  offset_fits = let a = h.high in let b = count_small in product r.small (omega arith)

  module _ {p : List ℕ} (e : p ≡ resolved system graphics c.address (size * c.count)) where
    is_part : p ≡ part_bytes system graphics size table c.part
    unfolding part_bytes
    is_part = e ∙ rw (h.stands.address, h.stands.count)

    length_of : length p ≡ size * c.count
    length_of =
        ap length is_part ∙ length_part system graphics size table c.part (part_good_lem system graphics size table c.part (parts table) h.inside r.good)
        ∙ ap (λ (x : ℕ). size * x) (sym h.stands.count)

    module _ {at : ℕ} (here : at ≡ size * (i - c.first)) where
      pub offset_inside : at ≤ length p
      offset_inside = let a = h.high in let d : i - c.first ≤ c.count = omega arith in let m = mul-le-mul_left size d in omega (arith, here, m, length_of)

      -- the end of the part from item i on
      pub run_cut : take (length p - at) (drop at p) ≡ take (size * (c.first + c.count - i)) (drop (size * i) (list_bytes system graphics size table))
      unfolding list_bytes
      run_cut =
          let s = h.stands in
          let lo : before table c.part ≤ i = rw s.first_is at h.low in
          let hi : i ≤ before table c.part + count_at table c.part = let a = rw (s.first_is, s.count) at h.high in omega arith in
          rw here (part_to_end p (size * (i - c.first)) ∙ rw (s.first_is, s.count, is_part) (sym (run_in system graphics size table c.part (parts table) i h.inside r.good lo hi)))

  -- a run from item i on is as long as it is said to be
  module _ {q : List ℕ} (e : q ≡ take (size * (c.first + c.count - i)) (drop (size * i) (list_bytes system graphics size table))) where
    pub length_run : length q ≡ size * (c.first + c.count - i)
    length_run =
        let end : c.first + c.count ≤ total table = within h.stands h.inside in
        let m : size * (c.first + c.count) ≤ size * total table = mul-le-mul_left size end in
        let a = h.high in
        let d : size * (c.first + c.count) ≡ size * i + size * (c.first + c.count - i) = bytes_between size (omega arith) in
        ap length e ∙ length-take-le _ _ (rw (length-drop, length_list system graphics size table r.good) (omega arith))

-- ---- a run of items, n of size bytes from number i on

drop_take : {A : Type 0} (m n : ℕ) (l : List A) → drop m (take (m + n) l) ≡ take n (drop m l)
drop_take zero n l = rw (zero-add n)
drop_take (suc m) n [] = rw (suc-add m n, take-nil n)
drop_take (suc m) n (x ∷ l) = rw (suc-add m n) (drop_take m n l)

module _ (size : ℕ) (bytes : List ℕ) (i n : ℕ) where
  -- its item j is item i + j
  pub run_item : (j : ℕ) → j < n → item size (take (size * n) (drop (size * i) bytes)) j ≡ item size bytes (i + j)
  unfolding item
  run_item j l =
      let split : size * n ≡ size * j + size * (n - j) = bytes_between size (omega arith) in
      let one : 1 ≤ n - j = omega arith in
      let room : size ≤ size * (n - j) = omega (arith, mul-le-mul_left size one, mul-one size) in
      rw (split, drop_take (size * j) (size * (n - j)) (drop (size * i) bytes), take-take size (size * (n - j)) (drop (size * j) (drop (size * i) bytes)) room, drop-drop (size * j) (size * i) bytes, mul-add size i j)

  -- a field of its item j
  pub run_field : (w j off : ℕ) → j < n → off + w ≤ size → le_at w (take (size * n) (drop (size * i) bytes)) (size * j + off) ≡ le_at w (item size bytes (i + j)) off
  run_field w j off l f = sym (item_field size (take (size * n) (drop (size * i) bytes)) j w off f) ∙ ap (λ (x : List ℕ). le_at w x off) (run_item j l)
