-- A list is accepted exactly when the grammar has one there, and its items are the grammar's: `listed_items`, `items_listed`, `refused_none`.
use Prim.Native.Nat.{ℕ, zero, suc, ◌+◌, ◌*◌, ◌≤◌, ◌<◌}
use native.Mathlib.Nat.{add-zero, mul-zero, mul-le-mul_left, eq-or-lt_of_le, eq_of_mul-eq-mul_left}
use native.Mathlib.Omega.{arith}
use mathlib.Core.Path.{◌≡◌, refl, sym, ap, subst, ◌∙◌}
use mathlib.Core.Bool.{true}
use mathlib.Core.List.{List, [], ◌∷◌, ◌++◌, append_assoc, append-nil}
use mathlib.Core.Logic.{⊎_elim}
use lib.ListN.{length}
use Rattle.fields.specs.Bytes.{le_at, cut}
use Rattle.resource.specs.Section.{resolved}
use Rattle.read_grammar.specs.Parts.{Good}
use Rattle.read_grammar.specs.Lists.{Table, no_table, table, Parts, no_part, skipped, part, ListAt, Items as ItemsAt, empty, some}
use Rattle.read_grammar.proofs.Parts.{list_length}
use Rattle.strip.specs.Outcome.{values, refusal}
use Rattle.strip.proofs.Papers.{no_values}
use Rattle.read_lists.specs.Lists.{address_at, count_at, parts, total, readable_at, header, table_of, part_bytes, part_good, bytes_to, good_to, all_good, list_bytes, listed}
use Rattle.read_lists.proofs.Lists.{resolved_most, whole_of, length_whole, good_both, length_list}
use Rattle.read_lists.proofs.Accepted.{Accepted, ListFound, at_null, there, listed_found, found_listed}

nothing : (l : List ℕ) → length l ≤ 0 → l ≡ []
nothing [] h = refl
nothing (x ∷ l) h = absurd (omega arith)

-- ---- good parts

module _ (S G : List ℕ) (va n : ℕ) where
  whole_good : 0 < n → readable_at S G va n ≡ true → Good S G va n (resolved S G va n)
  whole_good h e = record { some = h; there = refl; length_is = length_whole S G va n e }

  good_whole : {b : List ℕ} → Good S G va n b → readable_at S G va n ≡ true
  good_whole g = whole_of S G va n (omega (arith, ap length g.there, g.length_is))

  none_asked : n ≡ 0 → readable_at S G va n ≡ true
  none_asked z = whole_of S G va n (omega arith)

  none_there : n ≡ 0 → resolved S G va n ≡ []
  none_there z = nothing (resolved S G va n) (omega (arith, resolved_most S G va n))

-- ---- the part table

module _ (S G : List ℕ) where
  whole_table : (va k : ℕ) → readable_at S G va (16 * k) ≡ true → Table S G va k (resolved S G va (16 * k))
  whole_table va zero e = rw (none_there S G va (16 * 0) refl) no_table
  whole_table va (suc k) e = table (whole_good S G va (16 * suc k) (omega arith) e)

  table_whole : {va k : ℕ} {t : List ℕ} → Table S G va k t → (resolved S G va (16 * k) ≡ t) × (readable_at S G va (16 * k) ≡ true)
  table_whole {va} no_table = (none_there S G va (16 * 0) refl, none_asked S G va (16 * 0) refl)
  table_whole {va} (table {k = k} g) = (g.there, good_whole S G va (16 * suc k) g)

-- ---- the parts

module _ (S G : List ℕ) (w : ℕ) (wide : 0 < w) (t : List ℕ) where
  -- one part: skipped, or good
  single : (j : ℕ) → part_good S G w t j ≡ true → Parts S G w t (16 * j) 1 (part_bytes S G w t j)
  unfolding part_good part_bytes address_at count_at
  single j g = let z : 0 ≤ le_at 4 t (16 * j + 8) = omega arith in ⊎_elim none_here some_here (eq-or-lt_of_le z)
    where
      some_here : 0 < le_at 4 t (16 * j + 8) → Parts S G w t (16 * j) 1 (resolved S G (le_at 8 t (16 * j)) (w * le_at 4 t (16 * j + 8)))
      some_here m =
          let one : 1 ≤ le_at 4 t (16 * j + 8) = m in
          let n : 0 < w * le_at 4 t (16 * j + 8) = omega (arith, mul-le-mul_left w one) in
          subst (Parts S G w t (16 * j) 1) (append-nil (resolved S G (le_at 8 t (16 * j)) (w * le_at 4 t (16 * j + 8)))) (part (whole_good S G (le_at 8 t (16 * j)) (w * le_at 4 t (16 * j + 8)) n g) no_part)

      none_here : 0 ≡ le_at 4 t (16 * j + 8) → Parts S G w t (16 * j) 1 (resolved S G (le_at 8 t (16 * j)) (w * le_at 4 t (16 * j + 8)))
      none_here z =
          let e : w * le_at 4 t (16 * j + 8) ≡ 0 = ap (λ (x : ℕ). w * x) (sym z) ∙ mul-zero w in
          rw (none_there S G (le_at 8 t (16 * j)) (w * le_at 4 t (16 * j + 8)) e) (skipped (sym z) no_part)

  -- one more behind others
  more : {at k : ℕ} {bs : List ℕ} (j : ℕ) → Parts S G w t at k bs → at + 16 * k ≡ 16 * j → part_good S G w t j ≡ true → Parts S G w t at (suc k) (bs ++ part_bytes S G w t j)
  more {at} j no_part e g = let f : 16 * j ≡ at = omega arith in subst (λ (x : ℕ). Parts S G w t x 1 (part_bytes S G w t j)) f (single j g)
  more j (skipped z p) e g = skipped z (more j p (omega arith) g)
  more j (part {b = b} {bs = bs} h p) e g = rw (append_assoc b bs (part_bytes S G w t j)) (part h (more j p (omega arith) g))

  -- what is found good, the grammar has
  sound : (k : ℕ) → good_to S G w t k ≡ true → Parts S G w t 0 k (bytes_to S G w t k)
  unfolding bytes_to
  sound zero e = no_part
  sound (suc k) e = let (a, b) = good_both S G w t k e in more k (sound k a) (omega arith) b

  -- and what the grammar has behind j good parts is found good, with the same bytes
  abbrev Behind : ℕ → ℕ → List ℕ → Type 0
  Behind j k bs = (good_to S G w t (j + k) ≡ true) × (bytes_to S G w t (j + k) ≡ bytes_to S G w t j ++ bs)

  turn : {b : List ℕ} (bs : List ℕ) (j k : ℕ) → good_to S G w t j ≡ true → part_good S G w t j ≡ true → part_bytes S G w t j ≡ b → (good_to S G w t (suc j) ≡ true → Behind (suc j) k bs) → Behind j (suc k) (b ++ bs)
  unfolding good_to bytes_to
  turn {b} bs j k g h e rest =
      let shift : suc j + k ≡ j + suc k = omega arith in
      let next : good_to S G w t (suc j) ≡ true = rw (g, h) in
      let (good, same) = rest next in (
        subst (λ (n : ℕ). good_to S G w t n ≡ true) shift good,
        ap (bytes_to S G w t) (sym shift) ∙ same ∙ append_assoc (bytes_to S G w t j) (part_bytes S G w t j) bs ∙ ap (λ (x : List ℕ). bytes_to S G w t j ++ (x ++ bs)) e,
      )

  complete : {at k : ℕ} {bs : List ℕ} (j : ℕ) → at ≡ 16 * j → good_to S G w t j ≡ true → Parts S G w t at k bs → Behind j k bs
  unfolding part_good part_bytes address_at count_at
  complete j e g no_part = rw (add-zero j, append-nil) (g, refl)
  complete j e g (skipped {k = k} z p) =
      let none : w * le_at 4 t (16 * j + 8) ≡ 0 = rw (← e, z, mul-zero) in
      turn _ j k g (none_asked S G (le_at 8 t (16 * j)) (w * le_at 4 t (16 * j + 8)) none) (none_there S G (le_at 8 t (16 * j)) (w * le_at 4 t (16 * j + 8)) none) (λ n. complete (suc j) (omega arith) n p)
  complete j e g (part {k = k} {b = b} h p) =
      let here : Good S G (le_at 8 t (16 * j)) (w * le_at 4 t (16 * j + 8)) b = rw e at h in
      turn _ j k g (good_whole S G (le_at 8 t (16 * j)) (w * le_at 4 t (16 * j + 8)) here) here.there (λ n. complete (suc j) (omega arith) n p)

-- ---- the list

module _ (S G : List ℕ) (w : ℕ) (wide : 0 < w) where
  -- the items that an accepted list of n has
  abbrev pub items_of : ℕ → ℕ → List (List ℕ)
  items_of va n = cut w n (list_bytes S G w (table_of S G va))

  -- a table that is readable_at has the parts that the header counts
  parts_are : (va : ℕ) → readable_at S G (le_at 8 (header S G va) 0x10) (16 * le_at 4 (header S G va) 0x20) ≡ true → parts (table_of S G va) ≡ le_at 4 (header S G va) 0x20
  unfolding table_of
  parts_are va e = omega (arith, length_whole S G (le_at 8 (header S G va) 0x10) (16 * le_at 4 (header S G va) 0x20) e)

  found_items : {va n : ℕ} → ListFound S G w va n → ItemsAt S G w va (items_of va n)
  unfolding cut header table_of list_bytes
  found_items at_null = empty
  found_items (there {va = va} a) =
      let t : List ℕ = table_of S G va in
      some a.some
      record {
        header = header S G va;
        parts = t;
        bytes = list_bytes S G w t;
        header_good = whole_good S G va 48 (omega arith) a.header_whole;
        parts_good = whole_table S G (le_at 8 (header S G va) 0x10) (le_at 4 (header S G va) 0x20) a.table_whole;
        items_good = subst (λ (k : ℕ). Parts S G w t 0 k (list_bytes S G w t)) (parts_are va a.table_whole) (sound S G w wide t (parts t) a.parts_good);
        adds_up = length_list S G w t a.parts_good ∙ ap (λ (n : ℕ). w * n) a.adds_up;
        are = refl;
      }

  module _ {va : ℕ} {xs : List (List ℕ)} (far : 0 < va) (l : ListAt S G va w xs) where
    header_is : header S G va ≡ l.header
    unfolding header
    header_is = l.header_good.there

    abbrev t : List ℕ
    t = table_of S G va

    abbrev k : ℕ
    k = le_at 4 (header S G va) 0x20

    has_table : (t ≡ l.parts) × (readable_at S G (le_at 8 (header S G va) 0x10) (16 * k) ≡ true)
    unfolding table_of
    has_table = table_whole S G (subst (λ (x : List ℕ). Table S G (le_at 8 x 0x10) (le_at 4 x 0x20) l.parts) (sym header_is) l.parts_good)

    count_is : 0 + k ≡ parts t
    count_is = omega (arith, parts_are va has_table.1)

    has_parts : Behind S G w wide t 0 k l.bytes
    unfolding good_to
    has_parts =
        complete S G w wide t 0 refl refl
        (subst (λ (u : List ℕ). Parts S G w u 0 k l.bytes) (sym has_table.0) (subst (λ (x : List ℕ). Parts S G w l.parts 0 (le_at 4 x 0x20) l.bytes) (sym header_is) l.items_good))

    all_good_lem : all_good S G w t ≡ true
    all_good_lem = subst (λ (n : ℕ). good_to S G w t n ≡ true) count_is has_parts.0

    bytes_are : list_bytes S G w t ≡ l.bytes
    unfolding list_bytes bytes_to
    bytes_are = ap (bytes_to S G w t) (sym count_is) ∙ has_parts.1

    items_are : le_at 4 (header S G va) 8 ≡ le_at 4 l.header 8
    items_are = ap (λ (x : List ℕ). le_at 4 x 8) header_is

    accepted : Accepted S G w va
    accepted =
        record {
          some = far;
          header_whole = good_whole S G va 48 l.header_good;
          table_whole = has_table.1;
          parts_good = all_good_lem;
          adds_up = eq_of_mul-eq-mul_left w wide (total t) (le_at 4 (header S G va) 8) (sym (length_list S G w t all_good_lem) ∙ ap length bytes_are ∙ l.adds_up ∙ ap (λ (n : ℕ). w * n) (sym items_are));
        }

    length_is : le_at 4 l.header 8 ≡ length xs
    length_is = sym (list_length S G w l)

  items_found : {va : ℕ} {xs : List (List ℕ)} → ItemsAt S G w va xs → ListFound S G w va (length xs) × (xs ≡ items_of va (length xs))
  unfolding cut
  items_found empty = (at_null, refl)
  items_found (some {va = va} far l) = (subst (ListFound S G w va) (items_are far l ∙ length_is far l) (there (accepted far l)), l.are ∙ rw (length_is far l, ← (bytes_are far l)))

  module _ (place : ℕ) where
    pub listed_items : {va n : ℕ} → listed S G w va place ≡ values n → ItemsAt S G w va (items_of va n)
    listed_items e = found_items (listed_found S G w place e)

    pub items_listed : {va : ℕ} {xs : List (List ℕ)} → ItemsAt S G w va xs → (listed S G w va place ≡ values (length xs)) × (xs ≡ items_of va (length xs))
    items_listed i = let (f, e) = items_found i in (found_listed S G w place f, e)

    pub refused_none : {va number p : ℕ} {xs : List (List ℕ)} → listed S G w va place ≡ refusal number p → ItemsAt S G w va xs → ⊥
    refused_none e i = no_values (sym e ∙ (items_listed i).0)
