-- A side as whole numbers: whether it is crossed is a strict comparison of two products of differences. Assumes nothing.
use Prim.Native.Nat.{ℕ, zero, suc, ◌+◌, ◌*◌, ◌-◌, ◌≤◌, ◌<◌}
use mathlib.Core.Path.{◌≡◌, refl, sym, ◌∙◌}
use mathlib.Core.Bool.{Bool, true, false, cond}
use native.Mathlib.Omega.{arith}
use native.Mathlib.Nat.{mul-add, add-mul, mul-sub, mul_comm, mul-le-mul_left}
use lib.Dec.{leb, ltb}
use lib.IntN.{ℤ, pos, negsuc, neg_ℤ, ◌-ℤ◌, ◌*ℤ◌}
use lib.Signed.{lt_z}
use borrow.Author.Tests.{ltb-true, ltb-false, lt-ltb, le-ltb, le-leb, lt-leb}
use Rattle.pick_contains.specs.declared.Spot.{Spot}
use Rattle.pick_contains.specs.Inside.{left_of, crossed}
use Rattle.pick_contains.proofs.Laws.{same_test}

-- z is p - q
data Minus (p q : ℕ) : ℤ → Type 0 where
  over : (u : ℕ) → p ≡ q + u → Minus p q (pos u)
  under : (u : ℕ) → q ≡ p + suc u → Minus p q (negsuc u)

difference : (a b : ℕ) → Minus a b (pos a -ℤ pos b)
difference a zero = over (a + 0) (omega arith)
difference a (suc b) = by (ltb a (suc b)) refl
  where
    by : (t : Bool) → ltb a (suc b) ≡ t → Minus a (suc b) (cond t (negsuc (suc b - suc a)) (pos (a - suc b)))
    by true e = let h = ltb-true a (suc b) e in under (suc b - suc a) (omega arith)
    by false e = let h = ltb-false a (suc b) e in over (a - suc b) (omega arith)

minus_neg : (p q n : ℕ) → q ≡ p + n → Minus p q (neg_ℤ (pos n))
minus_neg p q zero e = over 0 (omega arith)
minus_neg p q (suc n) e = under n e

-- the product of two differences
minus_mul : {a b c d : ℕ} {z w : ℤ} → Minus a b z → Minus c d w → Minus (a * c + b * d) (a * d + b * c) (z *ℤ w)
minus_mul {a} {b} {c} {d} (over u e) (over v f) = over (u * v) (rw (e, f) (simp (mul-add, add-mul) (omega arith)))
minus_mul {a} {b} {c} {d} (over u e) (under v f) = minus_neg _ _ (u * suc v) (rw (e, f) (simp (mul-add, add-mul) (omega arith)))
minus_mul {a} {b} {c} {d} (under u e) (over v f) = minus_neg _ _ (suc u * v) (rw (e, f) (simp (mul-add, add-mul) (omega arith)))
minus_mul {a} {b} {c} {d} (under u e) (under v f) = over (suc u * suc v) (rw (e, f) (simp (mul-add, add-mul) (omega arith)))

minus_lt : {a b c d : ℕ} {z w : ℤ} → Minus a b z → Minus c d w → lt_z z w ≡ ltb (a + d) (c + b)
minus_lt {a} {b} {c} {d} (over u e) (over v f) = same_test u v (a + d) (c + b) (omega arith)
minus_lt {a} {b} {c} {d} (over u e) (under v f) = sym (le-ltb (a + d) (c + b) (omega arith))
minus_lt {a} {b} {c} {d} (under u e) (over v f) = sym (lt-ltb (a + d) (c + b) (omega arith))
minus_lt {a} {b} {c} {d} (under u e) (under v f) = same_test v u (a + d) (c + b) (omega arith)

-- (x - x1) (y2 - y1) and (y - y1) (x2 - x1), of the side from (x1, y1) to (x2, y2)
module _ (s a b : Spot) where
  abbrev pub across : ℤ
  across = (pos s.x -ℤ pos a.x) *ℤ (pos b.y -ℤ pos a.y)

  abbrev pub along : ℤ
  along = (pos s.y -ℤ pos a.y) *ℤ (pos b.x -ℤ pos a.x)

  is_across : Minus (s.x * b.y + a.x * a.y) (s.x * a.y + a.x * b.y) across
  is_across = minus_mul (difference s.x a.x) (difference b.y a.y)

  is_along : Minus (s.y * b.x + a.y * a.x) (s.y * a.x + a.y * b.x) along
  is_along = minus_mul (difference s.y a.y) (difference b.x a.x)

-- `left_of` as a comparison of two differences
left_minus : (s low high : Spot) → low.y ≤ s.y → s.y < high.y → {p q r t : ℕ} {z w : ℤ} → Minus p q z → Minus r t w
    → s.x * high.y + low.x * s.y + high.x * low.y + (r + q) ≡ p + t + (s.x * low.y + low.x * high.y + high.x * s.y) → left_of s low high ≡ lt_z z w
unfolding left_of
left_minus s low high h k {p} {q} {r} {t} m n e =
    let i = mul-le-mul_left {m = low.y} {n = high.y} s.x (omega arith) in
    let j = mul-le-mul_left {m = s.y} {n = high.y} low.x (omega arith) in
    let o = mul-le-mul_left {m = low.y} {n = s.y} high.x h in
    same_test (s.x * (high.y - low.y)) (low.x * (high.y - s.y) + high.x * (s.y - low.y)) (p + t) (r + q)
    (rw (mul-sub s.x high.y low.y, mul-sub low.x high.y s.y, mul-sub high.x s.y low.y) (omega arith))
    ∙ sym (minus_lt m n)

module _ (s a b : Spot) where
  -- a side with one end at or below the spot's height and the other above it: from low to high, and from high to low
  pub crossed_up : a.y ≤ s.y → s.y < b.y → crossed s a b ≡ lt_z (across s a b) (along s a b)
  unfolding crossed
  crossed_up h k =
      rw (le-leb a.y s.y h, lt-leb b.y s.y k)
      (left_minus s a b h k (is_across s a b) (is_along s a b)
      (omega (arith, mul_comm s.y b.x, mul_comm s.y a.x, mul_comm a.y b.x, mul_comm a.y a.x)))

  pub crossed_down : b.y ≤ s.y → s.y < a.y → crossed s a b ≡ lt_z (along s a b) (across s a b)
  unfolding crossed
  crossed_down h k =
      rw (lt-leb a.y s.y k, le-leb b.y s.y h)
      (left_minus s b a h k (is_along s a b) (is_across s a b)
      (omega (arith, mul_comm s.y b.x, mul_comm s.y a.x, mul_comm a.y b.x, mul_comm a.y a.x)))

  -- and one with both or neither
  pub not_crossed : (leb a.y s.y ≡ leb b.y s.y) → crossed s a b ≡ false
  unfolding crossed
  not_crossed h = rw h (by (leb b.y s.y))
    where
      by : (t : Bool) → cond t (cond t false (left_of s a b)) (cond t (left_of s b a) false) ≡ false
      by true = refl
      by false = refl
