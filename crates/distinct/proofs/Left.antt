-- Numbers given to a list of keys, one after the other: what is left before the key at i. A loop over keys has `Left` as its invariant.
use Prim.Native.Nat.{ℕ, ◌+◌, ◌-◌, ◌≤◌, ◌<◌}
use native.Mathlib.Omega.{arith}
use native.Mathlib.Numerals.{add-one}
use mathlib.Core.Path.{◌≡◌, refl, sym, ◌∙◌}
use mathlib.Core.Bool.{true, false}
use mathlib.Core.List.{List, [], ◌∷◌, ◌++◌, append_assoc, append-nil}
use lib.ListN.{length, get_or, set, take, drop, length-set, take-append-drop}
use lib.Seq.{drop-cons, take-suc-set, drop-set-lt, drop-length, drop-drop}
use lib.Dec.{leb}
use Rattle.std.specs.declared.option.Option.TheVariants.{None, Some}
use Rattle.distinct.specs.Distinct.{index_of, with_new, distinct_from}
use Rattle.distinct.specs.Numbers.{numbers_from, excess_from}

-- lists that are equal from a on are equal from further on
pub drop_more : (a e : ℕ) → a ≤ e → (l r : List ℕ) → drop a l ≡ drop a r → drop e l ≡ drop e r
drop_more a e h l r q =
    let sum : a + (e - a) ≡ e = omega arith in
    rw (← sum, ← drop-drop (e - a) a l, ← drop-drop (e - a) a r, q)

-- of the keys xs those from i on are left, l has been met, and o holds the numbers of the others:
-- what is left, numbered from here, makes what xs make from l₀, in the words o₀
pub record Left (most : ℕ) (l₀ xs o₀ l o : List ℕ) (i : ℕ) : Type 0 where
  pub within : i ≤ length xs
  pub long : length o ≡ length o₀
  pub excess : excess_from most l i (drop i xs) ≡ excess_from most l₀ 0 xs
  pub distinct : distinct_from l (drop i xs) ≡ distinct_from l₀ xs
  pub numbers : take i o ++ numbers_from l (drop i xs) ≡ numbers_from l₀ xs
  pub kept : drop i o ≡ drop i o₀

pub left_start : (most : ℕ) (l₀ xs o l : List ℕ) → l ≡ l₀ → Left most l₀ xs o l o 0
left_start most l₀ xs o l e = record { within = omega arith; long = refl; excess = rw e; distinct = rw e; numbers = rw e; kept = refl }

module _ (most : ℕ) (l₀ xs o₀ l o : List ℕ) (i x : ℕ) (g : Left most l₀ xs o₀ l o i) (lt : i < length xs) (ex : x ≡ get_or xs i 0) where
  more : drop i xs ≡ x ∷ drop (i + 1) xs
  more = rw (add-one, ex) (drop-cons xs i 0 (omega arith))

  -- there is room for x
  pub left_turn : (k : ℕ) (l' : List ℕ) → length xs ≤ length o₀ → leb (length (with_new l x)) most ≡ true → k ≡ index_of l x → l' ≡ with_new l x → Left most l₀ xs o₀ l' (set o i k) (i + 1)
  unfolding excess_from distinct_from numbers_from
  left_turn k l' lo room ek el = record {
    within = omega arith;
    long = length-set o i k ∙ g.long;
    excess = sym (rw (more, room, el, add-one i)) ∙ g.excess;
    distinct = sym (rw (more, el)) ∙ g.distinct;
    numbers = sym (rw (more, el, ← ek, add-one i, take-suc-set o i k (omega (arith, g.long)), append_assoc)) ∙ g.numbers;
    kept = drop-set-lt (i + 1) o i k (omega arith) ∙ drop_more i (i + 1) (omega arith) o o₀ g.kept;
  }

  -- there is none
  pub left_over : leb (length (with_new l x)) most ≡ false → excess_from most l₀ 0 xs ≡ Some i
  unfolding excess_from
  left_over full = sym g.excess ∙ rw (more, full)

-- nothing is left
module _ (most : ℕ) (l₀ xs o₀ l o : List ℕ) (i : ℕ) (g : Left most l₀ xs o₀ l o i) (e : i ≡ length xs) where
  none : drop i xs ≡ []
  none = rw e (drop-length xs)

  pub done_excess : excess_from most l₀ 0 xs ≡ None
  unfolding excess_from
  done_excess = sym g.excess ∙ rw none

  pub done_distinct : distinct_from l₀ xs ≡ l
  unfolding distinct_from
  done_distinct = sym g.distinct ∙ rw none

  pub done_numbers : o ≡ numbers_from l₀ xs ++ drop i o₀
  unfolding numbers_from
  done_numbers = rw (← g.numbers, none, append-nil, ← g.kept) (sym (take-append-drop i o))
