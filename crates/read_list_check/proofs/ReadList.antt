-- What each return of `read_list` is asked: a case of `listed`, by what the code saw.
use Prim.Native.Nat.{ℕ, ◌+◌, ◌*◌, ◌≤◌, ◌<◌}
use native.Mathlib.Numerals.{add-one}
use native.Mathlib.Omega.{arith}
use mathlib.Core.Path.{◌≡◌, refl, sym, ◌∙◌}
use mathlib.Core.Bool.{Bool, true, false, true≢false}
use mathlib.Core.List.{List}
use lib.ListN.{length}
use borrow.Author.Tests.{eq-eqb, ne_eqb}
use Rattle.fields.specs.Bytes.{le_at}
use Rattle.resource.specs.Section.{resolved}
use Rattle.strip.specs.Outcome.{Paper, values, refusal}
use Rattle.read_lists.specs.Lists.{count_at, address_at, parts, before, total, readable_at, part_good, good_to, all_good, header, table_of, listed}
use Rattle.read_lists.proofs.Lists.{resolved_most, whole_of, not_whole, part_good_lem}

not_true : (b : Bool) → (b ≡ true → ⊥) → b ≡ false
not_true true h = absurd (h refl)
not_true false h = refl

-- entry k of a table as the code read it: its count n, its address a and the part p there
module _ (system graphics : List ℕ) (size : ℕ) (table : List ℕ) (k : ℕ) {n a : ℕ} {p : List ℕ} (en : n ≡ le_at 4 table (16 * k + 8)) (ea : a ≡ le_at 8 table (16 * k)) (ep : p ≡ resolved system graphics a (size * n)) where
  pub good_part : size * n ≤ length p → part_good system graphics size table k ≡ true
  unfolding part_good count_at address_at
  good_part l = rw (← en, ← ea) (whole_of system graphics a (size * n) (rw (← ep) l))

  pub bad_part : length p < size * n → part_good system graphics size table k ≡ false
  unfolding part_good count_at address_at
  bad_part l = rw (← en, ← ea) (not_whole system graphics a (size * n) (rw (← ep) l))

  pub more_good : good_to system graphics size table k ≡ true → size * n ≤ length p → good_to system graphics size table (k + 1) ≡ true
  unfolding good_to
  more_good g l = rw (add-one k, g) (good_part l)

module _ (system graphics : List ℕ) (size va place : ℕ) where
  abbrev turned : ℕ → Paper ℕ
  turned n = refusal n place

  pub none : va ≡ 0 → values 0 ≡ listed system graphics size va place
  unfolding listed
  none z = rw (eq-eqb va 0 z)

  module _ (some : va ≡ 0 → ⊥) {h : List ℕ} (eh : h ≡ resolved system graphics va 48) where
    pub bad_header : length h < 48 → turned 35 ≡ listed system graphics size va place
    unfolding listed
    bad_header l = rw (ne_eqb va 0 some, not_whole system graphics va 48 (rw (← eh) l))

    module _ (long : 48 ≤ length h) {table : List ℕ} (et : table ≡ table_of system graphics va) {count : ℕ} (ec : count ≡ le_at 4 h 0x20) where
      has_header : readable_at system graphics va 48 ≡ true
      has_header = whole_of system graphics va 48 (rw (← eh) long)

      is_header : header system graphics va ≡ h
      unfolding header
      is_header = sym eh

      is_table : resolved system graphics (le_at 8 (header system graphics va) 0x10) (16 * le_at 4 (header system graphics va) 0x20) ≡ table
      unfolding table_of
      is_table = sym et

      size_is : 16 * le_at 4 (header system graphics va) 0x20 ≡ 16 * count
      size_is = rw (is_header, ec)

      pub bad_table : length table < 16 * count → turned 35 ≡ listed system graphics size va place
      unfolding listed
      bad_table l = rw (ne_eqb va 0 some, has_header, not_whole system graphics (le_at 8 (header system graphics va) 0x10) (16 * le_at 4 (header system graphics va) 0x20) (rw (is_table, size_is) l))

      module _ (full : 16 * count ≤ length table) where
        has_table : readable_at system graphics (le_at 8 (header system graphics va) 0x10) (16 * le_at 4 (header system graphics va) 0x20) ≡ true
        has_table = whole_of system graphics (le_at 8 (header system graphics va) 0x10) (16 * le_at 4 (header system graphics va) 0x20) (rw (is_table, size_is) full)

        parts_are : parts table ≡ count
        parts_are =
            let most : length table ≤ 16 * count = rw (is_table, size_is) at (resolved_most system graphics (le_at 8 (header system graphics va) 0x10) (16 * le_at 4 (header system graphics va) 0x20)) in
            omega arith

        pub part_refused : {k : ℕ} → k < count → part_good system graphics size table k ≡ false → turned 35 ≡ listed system graphics size va place
        unfolding listed
        part_refused {k} low bad =
            let some-bad : all_good system graphics size table ≡ false =
            not_true (all_good system graphics size table) (λ g. true≢false (sym (part_good_lem system graphics size table k (parts table) (rw parts_are low) g) ∙ bad)) in
            rw (ne_eqb va 0 some, has_header, has_table, ← et, some-bad)

        module _ {sum items k : ℕ} (es : sum ≡ before table k) (g : good_to system graphics size table k ≡ true) (e : k ≡ count) (ei : items ≡ le_at 4 h 8) where
          all_good_lem : all_good system graphics size table ≡ true
          all_good_lem = rw (parts_are, ← e) g

          all_before : total table ≡ sum
          all_before = rw (parts_are, ← e, es)

          pub adds_up : sum ≡ items → values items ≡ listed system graphics size va place
          unfolding listed
          adds_up q = rw (ne_eqb va 0 some, has_header, has_table, ← et, all_good_lem, all_before, is_header, ← ei, eq-eqb sum items q)

          pub not_up : (sum ≡ items → ⊥) → turned 36 ≡ listed system graphics size va place
          unfolding listed
          not_up q = rw (ne_eqb va 0 some, has_header, has_table, ← et, all_good_lem, all_before, is_header, ← ei, ne_eqb sum items q)
