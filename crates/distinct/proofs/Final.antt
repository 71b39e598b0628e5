-- A number that was met is in the list, once, at its index, and stays there as the list grows: the number given to a key is its index in the
-- final list.
use mathlib.Core.Path.{◌≡◌, refl, sym, ap, ◌∙◌}
use mathlib.Core.Bool.{Bool, true, false, cond}
use mathlib.Core.List.{List, [], ◌∷◌, ◌++◌, map, append_assoc, append-nil}
use Prim.Native.Nat.{ℕ, suc, ◌+◌, ◌≤◌, ◌<◌}
use native.Mathlib.Omega.{arith}
use native.Mathlib.Decide.{dec_lt}
use lib.ListN.{length, get_or, length-append, get_or-append}
use lib.Seq.{get_or_at}
use lib.Dec.{eqb}
use borrow.Author.Tests.{eqb-true, ltb-true, eq-eqb}
use Rattle.distinct.specs.Distinct.{index_of, is_in, with_new, distinct_from}
use Rattle.distinct.specs.Numbers.{numbers_from}
use Rattle.distinct.specs.Members.{In, Once}
use Rattle.distinct.proofs.Laws.{with_old, with_fresh, fresh_index, length_with}

-- what stands at its index
pub found : (l : List ℕ) (x : ℕ) → In l x → get_or l (index_of l x) 0 ≡ x
unfolding index_of
found [] x h = absurd (omega arith)
found (y ∷ l) x h = by (eqb y x) refl h (found l x)
  where
    by : (t : Bool) → eqb y x ≡ t → cond t 0 (suc (index_of l x)) < suc (length l) → (In l x → get_or l (index_of l x) 0 ≡ x)
        → get_or (y ∷ l) (cond t 0 (suc (index_of l x))) 0 ≡ x
    by true e k rest = eqb-true y x e
    by false e k rest = rest (omega arith)

-- the index of what is in l stays where l grows
pub index_more : (l t : List ℕ) (x : ℕ) → In l x → index_of (l ++ t) x ≡ index_of l x
unfolding index_of
index_more [] t x h = absurd (omega arith)
index_more (y ∷ l) t x h = by (eqb y x) h (index_more l t x)
  where
    by : (b : Bool) → cond b 0 (suc (index_of l x)) < suc (length l) → (In l x → index_of (l ++ t) x ≡ index_of l x)
        → cond b 0 (suc (index_of (l ++ t) x)) ≡ cond b 0 (suc (index_of l x))
    by true k rest = refl
    by false k rest = ap suc (rest (omega arith))

pub in_more : (l t : List ℕ) (x : ℕ) → In l x → In (l ++ t) x
in_more l t x h = rw (index_more l t x h, length-append l t) (omega arith)

index_last : (l : List ℕ) (x : ℕ) → index_of l x ≡ length l → index_of (l ++ (x ∷ [])) x ≡ length l
unfolding index_of
index_last [] x e = rw (eq-eqb x x refl)
index_last (y ∷ l) x e = by (eqb y x) e (index_last l x)
  where
    by : (b : Bool) → cond b 0 (suc (index_of l x)) ≡ suc (length l) → (index_of l x ≡ length l → index_of (l ++ (x ∷ [])) x ≡ length l)
        → cond b 0 (suc (index_of (l ++ (x ∷ [])) x)) ≡ suc (length l)
    by true k rest = absurd (omega arith)
    by false k rest = ap suc (rest (omega arith))

-- x is in the table once it was met, at the index that it was given
pub record Entered (l : List ℕ) (x : ℕ) (l' : List ℕ) : Type 0 where
  pub within : In l' x
  pub index : index_of l' x ≡ index_of l x

pub with_in : (l : List ℕ) (x : ℕ) → Entered l x (with_new l x)
with_in l x = by (is_in l x) refl
  where
    by : (b : Bool) → is_in l x ≡ b → Entered l x (with_new l x)
    by true e = rw (with_old l x e) (record { within = ltb-true (index_of l x) (length l) e; index = refl })
    by false e =
        let f : index_of l x ≡ length l = fresh_index l x e in
        rw (with_fresh l x e) (record { within = rw (index_last l x f, length-append l (x ∷ [])) (omega arith); index = index_last l x f ∙ sym f })

-- a table only grows
pub with_grows : (l : List ℕ) (x : ℕ) → (t : List ℕ) × (with_new l x ≡ l ++ t)
with_grows l x = by (is_in l x) refl
  where
    by : (b : Bool) → is_in l x ≡ b → (t : List ℕ) × (with_new l x ≡ l ++ t)
    by true e = ([], with_old l x e ∙ sym (append-nil l))
    by false e = (x ∷ [], with_fresh l x e)

pub grows : (l xs : List ℕ) → (t : List ℕ) × (distinct_from l xs ≡ l ++ t)
unfolding distinct_from
grows l [] = ([], sym (append-nil l))
grows l (x ∷ xs) =
    let f = with_grows l x in
    let g = grows (with_new l x) xs in
    (f.0 ++ g.0, g.1 ∙ ap (λ (m : List ℕ). m ++ g.0) f.1 ∙ append_assoc l f.0 g.0)

pub still_in : (l xs : List ℕ) (x : ℕ) → In l x → In (distinct_from l xs) x
still_in l xs x h = let g = grows l xs in rw g.1 (in_more l g.0 x h)

pub still_index : (l xs : List ℕ) (x : ℕ) → In l x → index_of (distinct_from l xs) x ≡ index_of l x
still_index l xs x h = let g = grows l xs in rw g.1 (index_more l g.0 x h)

pub length_distinct : (l xs : List ℕ) → length (distinct_from l xs) ≤ length l + length xs
unfolding distinct_from
length_distinct l [] = omega arith
length_distinct l (x ∷ xs) = omega (arith, length_distinct (with_new l x) xs, length_with l x)

pub length_grows : (l xs : List ℕ) → length l ≤ length (distinct_from l xs)
length_grows l xs = let g = grows l xs in rw (g.1, length-append l g.0) (omega arith)

pub distinct_append : (l xs ys : List ℕ) → distinct_from l (xs ++ ys) ≡ distinct_from (distinct_from l xs) ys
unfolding distinct_from
distinct_append l [] ys = refl
distinct_append l (x ∷ xs) ys = distinct_append (with_new l x) xs ys

pub once_with : (l : List ℕ) (x : ℕ) → Once l → Once (with_new l x)
once_with l x o = by (is_in l x) refl
  where
    last : is_in l x ≡ false → Once (l ++ (x ∷ []))
    last e i h = elim (dec_lt i (length l)) [
      | yes k ↦
          let same : get_or (l ++ (x ∷ [])) i 0 ≡ get_or l i 0 = get_or-append l (x ∷ []) 0 i k in
          rw same (index_more l (x ∷ []) (get_or l i 0) (omega (arith, o i k)) ∙ o i k)
      | no k ↦
          let end : i ≡ length l = omega (arith, length-append l (x ∷ [])) in
          rw (end, get_or_at l x [] 0 (length l) refl) (index_last l x (fresh_index l x e))
    ]

    by : (b : Bool) → is_in l x ≡ b → Once (with_new l x)
    by true e = rw (with_old l x e) o
    by false e = rw (with_fresh l x e) (last e)

pub once_distinct : (l xs : List ℕ) → Once l → Once (distinct_from l xs)
unfolding distinct_from
once_distinct l [] o = o
once_distinct l (x ∷ xs) o = once_distinct (with_new l x) xs (once_with l x o)

-- the numbers given one by one are the indices in the table at the end
pub numbers_at_the_end : (l xs : List ℕ) → numbers_from l xs ≡ map (index_of (distinct_from l xs)) xs
unfolding distinct_from numbers_from
numbers_at_the_end l [] = refl
numbers_at_the_end l (x ∷ xs) =
    let here : index_of (distinct_from (with_new l x) xs) x ≡ index_of l x = still_index (with_new l x) xs x (with_in l x).within ∙ (with_in l x).index in
    rw (here, numbers_at_the_end (with_new l x) xs)
