-- Laws of `index_of`, `with_new`, `up_to` and `numbers_from`.
use Prim.Native.Nat.{ℕ, zero, suc, ◌+◌, ◌≤◌, ◌<◌}
use native.Mathlib.Omega.{arith}
use native.Mathlib.Numerals.{one-add}
use mathlib.Core.Path.{◌≡◌, refl, sym, ap, ◌∙◌}
use mathlib.Core.Bool.{Bool, true, false, cond}
use mathlib.Core.List.{List, [], ◌∷◌, ◌++◌}
use lib.ListN.{length, get_or, length-append}
use lib.Dec.{leb, eqb, ltb}
use Rattle.std.specs.List.{position, position_or_len}
use Rattle.std.specs.Option.{unwrap_or}
use Rattle.std.specs.declared.option.Option.TheVariants.{None, Some}
use Rattle.std.proofs.lemmas.List.Recursion.{is_position_or_len}
use borrow.Author.Tests.{le-leb, lt-leb, leb-true, ltb-false, eq-eqb, ne_eqb}
use Rattle.distinct.specs.Distinct.{index_of, is_in, with_new, distinct_from}
use Rattle.distinct.specs.Numbers.{up_to, numbers_from}

-- ---- index_of

-- x at i, and nowhere before
pub index_at : (l : List ℕ) (x i : ℕ) → i < length l → get_or l i 0 ≡ x → ((j : ℕ) → j < i → get_or l j 0 ≡ x → ⊥) → index_of l x ≡ i
unfolding index_of
index_at [] x i h e before = omega arith
index_at (y ∷ l) x zero h e before = simp (eq-eqb y x e)
index_at (y ∷ l) x (suc i) h e before =
    let rest : index_of l x ≡ i = index_at l x i (omega arith) e (λ j q. before (suc j) (omega arith)) in
    simp (ne_eqb y x (before zero (omega arith)), rest)

-- x nowhere
pub index_none : (l : List ℕ) (x : ℕ) → ((j : ℕ) → j < length l → get_or l j 0 ≡ x → ⊥) → index_of l x ≡ length l
unfolding index_of
index_none [] x never = refl
index_none (y ∷ l) x never =
    let rest : index_of l x ≡ length l = index_none l x (λ j q. never (suc j) (omega arith)) in
    simp (ne_eqb y x (never zero (omega arith)), rest)

-- it is where the library's search ends
pub index_found : (l : List ℕ) (x : ℕ) → index_of l x ≡ position_or_len (λ y. eqb y x) l
unfolding index_of
index_found l x = is_position_or_len (λ m. index_of m x) (λ y. eqb y x) refl (λ y m. ap (cond (eqb y x) 0) (sym (one-add (index_of m x)))) l

step_le : (s : Bool) {m k : ℕ} → m ≤ k → cond s 0 (suc m) ≤ suc k
step_le true q = omega arith
step_le false q = omega arith

-- x at j: it is met there or before
pub index_le : (l : List ℕ) (x j : ℕ) → j < length l → get_or l j 0 ≡ x → index_of l x ≤ j
unfolding index_of
index_le [] x j h e = omega arith
index_le (y ∷ l) x zero h e = simp (eq-eqb y x e) (omega arith)
index_le (y ∷ l) x (suc j) h e = step_le (eqb y x) (index_le l x j (omega arith) e)

-- the number of x is at most the length
pub index_most : (l : List ℕ) (x : ℕ) → index_of l x ≤ length l
unfolding index_of
index_most [] x = omega arith
index_most (y ∷ l) x = step_le (eqb y x) (index_most l x)

module _ (l : List ℕ) (x : ℕ) where
  -- it is found there, or the length is told
  pub found_or : {r : ℕ} → r ≡ unwrap_or (position (λ y. eqb y x) l) (length l) → r ≡ index_of l x
  found_or {r} e = by (ltb (position_or_len (λ y. eqb y x) l) (length l)) refl e
    where
      by : (s : Bool) → ltb (position_or_len (λ y. eqb y x) l) (length l) ≡ s → r ≡ unwrap_or (cond s (Some (position_or_len (λ y. eqb y x) l)) None) (length l) → r ≡ index_of l x
      by true t q = q ∙ sym (index_found l x)
      by false t q = q ∙ omega (arith, index_found l x, index_most l x, ltb-false (position_or_len (λ y. eqb y x) l) (length l) t)

-- ---- with_new

module _ (l : List ℕ) (x : ℕ) where
  pub with_old : is_in l x ≡ true → with_new l x ≡ l
  unfolding with_new
  with_old e = rw e

  pub with_fresh : is_in l x ≡ false → with_new l x ≡ l ++ (x ∷ [])
  unfolding with_new
  with_fresh e = rw e

  pub length_fresh : is_in l x ≡ false → length (with_new l x) ≡ length l + 1
  length_fresh e = rw (with_fresh e, length-append l (x ∷ []))

  pub fresh_index : is_in l x ≡ false → index_of l x ≡ length l
  fresh_index e = omega (arith, index_most l x, ltb-false (index_of l x) (length l) e)

pub length_with : (l : List ℕ) (x : ℕ) → length (with_new l x) ≤ length l + 1
unfolding with_new
length_with l x = by (is_in l x)
  where
    by : (s : Bool) → length (cond s l (l ++ (x ∷ []))) ≤ length l + 1
    by true = omega arith
    by false = omega (arith, length-append l (x ∷ []))

-- ---- up_to: x is in l, or is added, or would be one too many. Both the test that it goes by and what it gives

module _ (most : ℕ) (l : List ℕ) (x : ℕ) where
  pub up_old : is_in l x ≡ true → length l ≤ most → (leb (length (with_new l x)) most ≡ true) × (up_to most l x ≡ l)
  up_old e few = rw (with_old l x e, le-leb (length l) most few) (refl, refl)

  pub up_new : is_in l x ≡ false → length l < most → (leb (length (with_new l x)) most ≡ true) × (up_to most l x ≡ l ++ (x ∷ []))
  up_new e few =
      let room : leb (length (with_new l x)) most ≡ true = le-leb (length (with_new l x)) most (omega (arith, length_fresh l x e)) in
      (room, rw (room, with_fresh l x e))

  pub up_full : is_in l x ≡ false → most ≤ length l → (leb (length (with_new l x)) most ≡ false) × (up_to most l x ≡ l)
  up_full e many =
      let full : leb (length (with_new l x)) most ≡ false = lt-leb (length (with_new l x)) most (omega (arith, length_fresh l x e)) in
      (full, rw full)

  -- it is the list with x where that isn't too long
  pub up_room : length l < most → up_to most l x ≡ with_new l x
  up_room few = rw (le-leb (length (with_new l x)) most (omega (arith, length_with l x)))

  -- and never longer than `most`, where l isn't
  pub up_most : length l ≤ most → length (up_to most l x) ≤ most
  up_most few = by (leb (length (with_new l x)) most) refl
    where
      by : (s : Bool) → leb (length (with_new l x)) most ≡ s → length (cond s (with_new l x) l) ≤ most
      by true e = leb-true (length (with_new l x)) most e
      by false e = few

-- the numbers of two lists in a row
pub numbers_append : (l xs ys : List ℕ) → numbers_from l (xs ++ ys) ≡ numbers_from l xs ++ numbers_from (distinct_from l xs) ys
unfolding distinct_from numbers_from
numbers_append l [] ys = refl
numbers_append l (x ∷ xs) ys = ap (λ (q : List ℕ). index_of l x ∷ q) (numbers_append (with_new l x) xs ys)
