-- What is asked of some words in a row, as what is asked of each of them in a list. Assumes nothing.
use Rattle.std.proofs.Common.{◌≡◌, ℕ, zero, suc, ◌+◌, ◌≤◌, Bool, true, ◌&&◌, List, [], ◌∷◌, length, get_or, take, drop, refl, ap, arith, ltb, drop-cons}
use native.Mathlib.Numerals.{add-one}
use Rattle.strip.specs.Scan.{all_below}

pub below : ℕ → List ℕ → Bool
below limit [] = true
below limit (x ∷ xs) = ltb x limit && below limit xs

pub below_none : (limit : ℕ) → below limit [] ≡ true
unfolding below
below_none limit = refl

pub below_more : (limit x : ℕ) (xs : List ℕ) → below limit (x ∷ xs) ≡ (ltb x limit && below limit xs)
unfolding below
below_more limit x xs = refl

pub below_words : (s : List ℕ) (limit n at : ℕ) → at + n ≤ length s → below limit (take n (drop at s)) ≡ all_below s at n limit
unfolding below all_below
below_words s limit zero at h = refl
below_words s limit (suc n) at h = rw (drop-cons s at 0 (omega arith), add-one) (ap (λ rest. ltb (get_or s at 0) limit && rest) (below_words s limit n (suc at) (omega arith)))
