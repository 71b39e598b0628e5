-- Runs of items that are taken part by part: what is left of a run is what the cursor's part holds of it, and what is left then.
use Prim.Native.Nat.{ℕ, ◌+◌, ◌-◌, ◌*◌, ◌/◌, ◌≤◌, ◌<◌, min}
use native.Mathlib.Nat.{add-zero, sub-zero, mul-zero, mul-add, mul-le-mul_left, mul-div_cancel_left}
use native.Mathlib.Omega.{arith}
use mathlib.Core.Path.{◌≡◌, sym, ◌∙◌}
use mathlib.Core.List.{List, [], ◌∷◌, ◌++◌, map}
use lib.ListN.{length, take, drop, get_or, take-append-drop, drop_of_length-le, length-map}
use lib.Seq.{take-add, drop-drop, ext_get_or}
use Rattle.std.proofs.lemmas.List.{map-append}
use Rattle.fields.specs.Bytes.{cut}
use Rattle.fields.specs.Put.{put}
use Rattle.fields.proofs.Puts.{put_next, put_nil}
use Rattle.strip.specs.Cell.{each}
use Rattle.read_lists.specs.declared.Cursor.{Cursor}
use Rattle.read_lists.specs.Lists.{item, total, list_bytes}
use Rattle.read_lists.specs.Listed.{Readable}
use Rattle.read_lists.specs.Cursors.{Holds}
use Rattle.read_lists.proofs.Lists.{within, length_run, run_item}
use Rattle.fields.proofs.Cuts.{cut_length, cut_left}
use Rattle.read_lists.proofs.Cuts.{cut_item, cut_run, item_drop}
use Rattle.strip.proofs.Plain.{length_each}
use Rattle.read_records.proofs.Items.{each_append}
use Rattle.read_list_set.specs.Items.{items_in}

pub length_items : (system graphics : List ℕ) (w : ℕ) (table : List ℕ) → length (items_in system graphics w table) ≡ total table
unfolding items_in
length_items system graphics w table = cut_length w (total table) (list_bytes system graphics w table)

pub item_of : (system graphics : List ℕ) (w : ℕ) (table : List ℕ) (i : ℕ) → i < total table → get_or (items_in system graphics w table) i [] ≡ item w (list_bytes system graphics w table) i
unfolding items_in
item_of system graphics w table i h = cut_item w (total table) (list_bytes system graphics w table) i h

-- the first n items of a run of m
front : (w : ℕ) (bytes : List ℕ) (i m n : ℕ) → n ≤ m → cut w n (take (w * m) (drop (w * i) bytes)) ≡ cut w n (drop (w * i) bytes)
front w bytes i m n h =
    ext_get_or [] (cut w n (take (w * m) (drop (w * i) bytes))) (cut w n (drop (w * i) bytes)) (cut_length w n (take (w * m) (drop (w * i) bytes)) ∙ sym (cut_length w n (drop (w * i) bytes)))
    (λ j l.
    let low : j < n = rw (cut_length w n (take (w * m) (drop (w * i) bytes))) at l in
    cut_item w n (take (w * m) (drop (w * i) bytes)) j low ∙ run_item w bytes i m j (omega arith) ∙ sym (cut_item w n (drop (w * i) bytes) j low ∙ item_drop w bytes i j))

-- m items from number i on stand in the bytes q, the first of them at their head
pub record Part (w : ℕ) (items : List (List ℕ)) (i m : ℕ) (q : List ℕ) : Type 0 where
  pub some : 0 < m
  pub fits : i + m ≤ length items
  pub long : w * m ≤ length q
  pub step : drop i items ≡ cut w m q ++ drop (i + m) items

-- the part where the cursor stands, from item i on
module _ (system graphics : List ℕ) (w : ℕ) (table : List ℕ) (wide : 0 < w) (r : Readable system graphics w table) {i : ℕ} {c : Cursor} (h : Holds table i c) {q : List ℕ} (e : q ≡ take (w * (c.first + c.count - i)) (drop (w * i) (list_bytes system graphics w table))) where
  count_of : length q / w ≡ c.first + c.count - i
  count_of = let long : length q ≡ w * (c.first + c.count - i) = length_run system graphics w table r h e in rw long (mul-div_cancel_left (c.first + c.count - i) wide)

  -- its first n items
  front_of : (n : ℕ) → n ≤ length q / w → (w * n ≤ length q) × (i + n ≤ total table) × (take n (drop i (items_in system graphics w table)) ≡ cut w n q)
  unfolding items_in
  front_of n l =
      let m : ℕ = c.first + c.count - i in
      let high = h.high in
      let end = within h.stands h.inside in
      let short : n ≤ m = omega (arith, count_of) in
      let f = mul-le-mul_left w short in
      let inside : i + n ≤ total table = omega arith in
      let one : take n (drop i (cut w (total table) (list_bytes system graphics w table))) ≡ cut w n q =
      cut_run w (total table) (list_bytes system graphics w table) i n inside ∙ sym (front w (list_bytes system graphics w table) i m n short) ∙ rw (← e) in
      (omega (arith, length_run system graphics w table r h e), inside, one)

  -- all of them, and the list behind
  pub part_next : Part w (items_in system graphics w table) i (length q / w) q
  part_next =
      let high = h.high in
      let (whole, fits, one) = front_of (length q / w) (omega arith) in
      let items = items_in system graphics w table in
      let split : take (length q / w) (drop i items) ++ drop (length q / w) (drop i items) ≡ drop i items = take-append-drop (length q / w) (drop i items) in
      record {
        some = omega (arith, count_of);
        fits = omega (arith, length_items system graphics w table);
        long = whole;
        step = sym split ∙ rw (one, drop-drop (length q / w) i items);
      }

-- no item is left at the end
pub none_left : (system graphics : List ℕ) (w : ℕ) (table : List ℕ) (i : ℕ) → total table ≤ i → drop i (items_in system graphics w table) ≡ []
none_left system graphics w table i h =
    let long : length (items_in system graphics w table) ≤ i = rw (length_items system graphics w table) h in
    drop_of_length-le (items_in system graphics w table) long

-- what is left of m polygons of a run after k of them
module _ (run : List ℕ) (m k : ℕ) where
  pub record_next : k < m → cut 48 (m - k) (drop (48 * k) run) ≡ take (48 * k + 48 - 48 * k) (drop (48 * k) run) ∷ cut 48 (m - (k + 1)) (drop (48 * (k + 1)) run)
  record_next h = let e : 48 * k + 48 - 48 * k ≡ 48 = omega arith in rw e (cut_left 48 m run k h)

  pub record_none : m ≤ k → cut 48 (m - k) (drop (48 * k) run) ≡ []
  unfolding cut
  record_none h = let e : m - k ≡ 0 = omega arith in rw e

-- what is left of a run of `count` items from `start` on, after k of them
abbrev pub left : List (List ℕ) → ℕ → ℕ → ℕ → List (List ℕ)
left items start count k = take (count - k) (drop (start + k) items)

pub left_begin : (items : List (List ℕ)) (start count : ℕ) → left items start count 0 ≡ take count (drop start items)
left_begin items start count = rw (sub-zero count, add-zero start)

pub left_end : (items : List (List ℕ)) (start count k : ℕ) → count ≤ k → left items start count k ≡ []
left_end items start count k h = let e : count - k ≡ 0 = omega arith in rw e

-- n items of the run are taken from the bytes q
pub record Taken (w : ℕ) (items : List (List ℕ)) (start count k n : ℕ) (q : List ℕ) : Type 0 where
  pub some : 0 < n
  pub fits : k + n ≤ count
  pub long : w * n ≤ length q
  pub step : left items start count k ≡ cut w n q ++ left items start count (k + n)

-- as many as the cursor's part holds
pub taken : (system graphics : List ℕ) (w : ℕ) (table : List ℕ) → 0 < w → (r : Readable system graphics w table) (start count k : ℕ) {c : Cursor} (h : Holds table (start + k) c) {q : List ℕ}
    → q ≡ take (w * (c.first + c.count - (start + k))) (drop (w * (start + k)) (list_bytes system graphics w table))
    → {n : ℕ} → n ≡ min (length q / w) (count - k) → start + count ≤ total table → k < count → Taken w (items_in system graphics w table) start count k n q
taken system graphics w table wide r start count k {c} h {q} e {n} en room l =
    let items = items_in system graphics w table in
    let (whole, fits, one) = front_of system graphics w table wide r h e n (omega arith) in
    let high = h.high in
    let a : count - k ≡ n + (count - (k + n)) = omega arith in
    let b : start + k + n ≡ start + (k + n) = omega arith in
    record {
      some = omega (arith, count_of system graphics w table wide r h e);
      fits = omega arith;
      long = whole;
      step = rw (a, take-add n (count - (k + n)) (drop (start + k) items), one, drop-drop, b);
    }

-- ---- words

-- a part's items are written, and what is left goes behind them
module _ {A : Type 0} (words : A → List ℕ) (size : ℕ) (h : (a : A) → length (words a) ≡ size) (f : List ℕ → A) (at k n : ℕ) where
  pub put_part : (ys zs : List (List ℕ)) {xs : List (List ℕ)} → xs ≡ ys ++ zs → length ys ≡ n → (out : List ℕ)
      → put (at + size * (k + n)) (each words (map f zs)) (put (at + size * k) (each words (map f ys)) out) ≡ put (at + size * k) (each words (map f xs)) out
  put_part ys zs e l out =
      let a : at + size * (k + n) ≡ at + size * k + size * n = rw (mul-add size k n) (omega arith) in
      let b : length (each words (map f ys)) ≡ size * n = length_each words size h (map f ys) ∙ rw (length-map ys f, l) in
      rw (e, map-append f ys zs, each_append words (map f ys) (map f zs), a) (put_next (size * n) (at + size * k) (each words (map f ys)) (each words (map f zs)) out b)

module _ {A : Type 0} (words : A → List ℕ) (size : ℕ) (f : List ℕ → A) (at : ℕ) where
  pub put_first : {xs ys : List (List ℕ)} → xs ≡ ys → (out : List ℕ) → put (at + size * 0) (each words (map f xs)) out ≡ put at (each words (map f ys)) out
  put_first e out = rw (e, mul-zero size, add-zero at)

  pub put_none : (k : ℕ) {xs : List (List ℕ)} → xs ≡ [] → (out : List ℕ) → put (at + size * k) (each words (map f xs)) out ≡ out
  unfolding each
  put_none k e out = rw (e, put_nil)
