-- The halves of words that are links: how a number is stored in one, and that a walk comes to no other half.
use Prim.Native.Nat.{ℕ, ◌+◌, ◌*◌, ◌/◌, ◌%◌, ◌≤◌, ◌<◌}
use native.Mathlib.Omega.{arith}
use native.Mathlib.Decide.{dec_lt}
use mathlib.Core.Path.{◌≡◌, sym, ◌∙◌}
use mathlib.Core.List.{List}
use mathlib.Core.Logic.{◌⊎◌, inl, inr, ⊎_elim}
use lib.ListN.{get_or, set}
use borrow.Author.Tests.{lt-ltb, le-ltb}
use Rattle.write_vertices.specs.Table.{half, half_word_at, child_of, linked_with, added, Link, root, child}

pub half_low : (w s : ℕ) → s % 2 < 1 → half w s ≡ w % 65536
unfolding half
half_low w s l = rw (lt-ltb (s % 2) 1 l)

pub half_high : (w s : ℕ) → 1 ≤ s % 2 → half w s ≡ w / 65536
unfolding half
half_high w s l = rw (le-ltb (s % 2) 1 l)

pub half_zero : (s : ℕ) → half 0 s ≡ 0
half_zero s = elim (dec_lt (s % 2) 1) [
  | yes l ↦ half_low 0 s l ∙ omega arith
  | no l ↦ half_high 0 s (omega arith) ∙ omega arith
]

-- the halves of word k
pub low_at : (t : List ℕ) (k : ℕ) → half_word_at t (2 * k) ≡ get_or t k 0 % 65536
low_at t k = let e : 2 * k / 2 ≡ k = omega arith in rw e (half_low (get_or t k 0) (2 * k) (omega arith))

pub high_at : (t : List ℕ) (k : ℕ) → half_word_at t (2 * k + 1) ≡ get_or t k 0 / 65536
high_at t k = let e : (2 * k + 1) / 2 ≡ k = omega arith in rw e (half_high (get_or t k 0) (2 * k + 1) (omega arith))

-- a number stored in half s, which was 0
module _ (w s n : ℕ) (free : half w s ≡ 0) (few : n < 65536) where
  pub linked_own : half (linked_with w s n) s ≡ n
  unfolding linked_with
  linked_own = elim (dec_lt (s % 2) 1) [
    | yes l ↦ rw (lt-ltb (s % 2) 1 l) (half_low (w + n) s l ∙ omega (arith, sym (half_low w s l) ∙ free))
    | no l ↦ let h : 1 ≤ s % 2 = omega arith in
        rw (le-ltb (s % 2) 1 h) (half_high (w + n * 65536) s h ∙ omega (arith, sym (half_high w s h) ∙ free))
  ]

  pub linked_other : (s' : ℕ) → (s' % 2 ≡ s % 2 → ⊥) → half (linked_with w s n) s' ≡ half w s'
  unfolding linked_with
  linked_other s' ne = elim (dec_lt (s % 2) 1) [
    | yes l ↦ let h : 1 ≤ s' % 2 = omega arith in
        rw (lt-ltb (s % 2) 1 l) (half_high (w + n) s' h ∙ omega (arith, sym (half_low w s l) ∙ free) ∙ sym (half_high w s' h))
    | no l ↦ let h : 1 ≤ s % 2 = omega arith in
        let h' : s' % 2 < 1 = omega arith in
        rw (le-ltb (s % 2) 1 h) (half_low (w + n * 65536) s' h' ∙ omega arith ∙ sym (half_low w s' h'))
  ]

-- the three stores that add a vertex, with a link that is the vertex's
pub link_stored : (t : List ℕ) (b n x s l : ℕ) → l ≡ (n + 1) % 65536
    → set (set (set t (b + 2 * n) (x % 4294967296)) (b + 2 * n + 1) (x / 4294967296)) (s / 2) (linked_with (get_or t (s / 2) 0) s l) ≡ added t b n x s
unfolding added
link_stored t b n x s l e = rw e

-- ---- where links stand

-- the left child's half by an even key, the right one's by an odd key
pub left_child : (b p key : ℕ) → key % 2 < 1 → child_of b p key ≡ 2 * (b + 2 * p + 1) + 1
unfolding child_of
left_child b p key l = rw (lt-ltb (key % 2) 1 l)

pub right_child : (b p key : ℕ) → 1 ≤ key % 2 → child_of b p key ≡ 2 * p + 1
unfolding child_of
right_child b p key l = rw (le-ltb (key % 2) 1 l)

pub child_is : (b p key : ℕ)
    → ((key % 2 ≡ 0) × (child_of b p key ≡ 2 * (b + 2 * p + 1) + 1)) ⊎ ((key % 2 ≡ 1) × (child_of b p key ≡ 2 * p + 1))
child_is b p key = elim (dec_lt (key % 2) 1) [
  | yes l ↦ inl (omega arith, left_child b p key l)
  | no l ↦ inr (omega arith, right_child b p key (omega arith))
]

-- s is no half with a short of a vertex, and for no child of a vertex from n on
pub record Apart (b n s : ℕ) : Type 0 where
  pub within : s / 2 < b + 2 * n
  pub no_xy : (i : ℕ) → s / 2 ≡ b + 2 * i → ⊥
  pub no_z : (i : ℕ) → s ≡ 2 * (b + 2 * i + 1) → ⊥
  pub no_later : (i : ℕ) → n ≤ i → i < b → s ≡ 2 * i + 1 → ⊥

pub apart : {b n s : ℕ} → n ≤ b → Link b n s → Apart b n s
apart {b} {n} w (root k h) = record { within = omega arith; no_xy = λ i e. omega arith; no_z = λ i e. omega arith; no_later = λ i l q e. omega arith }
apart {b} {n} w (child p key h) =
    ⊎_elim
    (λ (d : (key % 2 ≡ 0) × (child_of b p key ≡ 2 * (b + 2 * p + 1) + 1)). record { within = omega arith; no_xy = λ i e. omega arith; no_z = λ i e. omega arith; no_later = λ i l q e. omega arith })
    (λ (d : (key % 2 ≡ 1) × (child_of b p key ≡ 2 * p + 1)). record { within = omega arith; no_xy = λ i e. omega arith; no_z = λ i e. omega arith; no_later = λ i l q e. omega arith })
    (child_is b p key)

-- a root's half is no child's
pub root_not_child : (b k p key : ℕ) → 2 * k ≡ child_of b p key → ⊥
root_not_child b k p key e = ⊎_elim (λ q. omega (arith, q.1)) (λ q. omega (arith, q.1)) (child_is b p key)

-- a child's half is that of one vertex, by one bit
pub child_once : (b p q k l : ℕ) → p < b → q < b → child_of b p k ≡ child_of b q l → (p ≡ q) × (k % 2 ≡ l % 2)
child_once b p q k l hp hq e =
    ⊎_elim
    (λ u. ⊎_elim (λ v. (omega (arith, u.1, v.1), omega (arith, u.0, v.0))) (λ v. absurd (omega (arith, u.1, v.1))) (child_is b q l))
    (λ u. ⊎_elim (λ v. absurd (omega (arith, u.1, v.1))) (λ v. (omega (arith, u.1, v.1), omega (arith, u.0, v.0))) (child_is b q l))
    (child_is b p k)
