-- The numbers of the exact return of shorts, with no float in them.
-- w is 1 and h is 2 ^ -24, each in units of an `f32`'s smallest value. e is the extent, and q / 65535 is rounded to r1, r1 * e to r2; x is where r2 comes back to, d its difference from lo, t = d / e, and p = t * 65535.
-- Assumes nothing.
use mathlib.Core.Path.{◌≡◌, ap}
use Prim.Native.Nat.{ℕ, ◌+◌, ◌-◌, ◌*◌, ◌≤◌, ◌<◌}
use native.Mathlib.Nat.{mul-pos, eq_of_mul-eq-mul_right, mul-le-mul, mul-le-mul_left, mul-le-mul_right, le_of_mul-le-mul_right, lt_of_mul-lt-mul_right, div-eq_of_lt-le, div-lt_iff_lt-mul}
use native.Mathlib.Omega.{arith}
use Rattle.quantise.specs.Short.{nearest_whole}
use Rattle.quantise.proofs.Near.{Near}

-- a factor that both have
pub cancel : (n c g k w : ℕ) → 0 < w → Near (n * w) (c * w) g k → Near n c g k
cancel n c g k w p at = record {
  not_above = le_of_mul-le-mul_right {k = w} (omega (arith, at.not_above)) p;
  not_below = le_of_mul-le-mul_right {k = w} (omega (arith, at.not_below)) p;
}

-- a is b to within k / 2
pub record Close (a b k : ℕ) : Type 0 where
  pub most : 2 * a ≤ 2 * b + k
  pub least : 2 * b ≤ 2 * a + k

module _ (w h e : ℕ) (is : w ≡ 16777216 * h) (some : 0 < h) (wide : 128 * w ≤ e) (narrow : e ≤ 4096 * w) where
  -- the two products that stand on both sides
  he : 128 * (h * w) ≤ h * e
  he = omega (arith, mul-le-mul_left h wide)

  module _ (r1 r2 x d t : ℕ) (two : Near (r1 * e) w r2 (4096 * h)) (three : Close x r2 (16384 * h)) (four : Near x 1 d (8192 * h)) (five : Near (d * w) e t (2 * h)) where
    dw : Close (d * w) (r2 * w) (24576 * (h * w))
    dw =
        let a : 2 * d ≤ 2 * r2 + 24576 * h = omega (arith, three.most, four.not_above) in
        let b : 2 * r2 ≤ 2 * d + 24576 * h = omega (arith, three.least, four.not_below) in
        record { most = omega (arith, mul-le-mul_right w a); least = omega (arith, mul-le-mul_right w b) }

    pub back : Close t r1 (226 * h)
    back = record {
      most = le_of_mul-le-mul_right {k = e} (omega (arith, dw.most, two.not_above, five.not_above, he)) (omega arith);
      least = le_of_mul-le-mul_right {k = e} (omega (arith, dw.least, two.not_below, five.not_below, he)) (omega arith);
    }

  module _ (q r1 t : ℕ) (one : Near (q * w) 65535 r1 h) (near : Close t r1 (226 * h)) where
    -- a t above 1 is that of the last short only
    pub last : q ≤ 65535 → w < t → q ≡ 65535
    last l g =
        let more : 65535 < q + 1 = lt_of_mul-lt-mul_right w (omega (arith, near.most, one.not_above)) in
        omega arith

    pub nearest_is : (p : ℕ) → Near (t * 65535) 1 p (65536 * h) → nearest_whole p w ≡ q
    nearest_is p six = div-eq_of_lt-le (2 * w) (omega (arith, six.not_below, one.not_below, near.least)) (omega (arith, six.not_above, one.not_above, near.most))

  -- what is not above 0 is that of the first short only
  pub zeroth : (q r1 r2 : ℕ) → Near (q * w) 65535 r1 h → Near (r1 * e) w r2 (4096 * h) → 2 * r2 ≤ 16384 * h → q ≡ 0
  zeroth q r1 r2 one two low =
      let little : 2 * r1 ≤ 160 * h = le_of_mul-le-mul_right {k = e} (omega (arith, two.not_below, mul-le-mul_right w low, he)) (omega arith) in
      let less : q < 1 = lt_of_mul-lt-mul_right w (omega (arith, one.not_below)) in
      omega arith

  -- below the last short, r1 is below 1 and r2 below the extent
  pub inside : (q r1 r2 : ℕ) → q < 65535 → Near (q * w) 65535 r1 h → Near (r1 * e) w r2 (4096 * h) → r2 ≤ e
  inside q r1 r2 l one two =
      let qw : q * w ≤ 65534 * w = mul-le-mul_right w (omega arith) in
      let r1e : 131070 * r1 * e ≤ (131068 * w + 65535 * h) * e = mul-le-mul_right e (omega (arith, one.not_above)) in
      le_of_mul-le-mul_right {k = w} (omega (arith, two.not_above, he, ap (λ (x : ℕ). x * e) is)) (omega arith)

-- ---- lo + r rounded to a, and lo taken off again, by the signs: lo is l or -l
pub over : (l r a k : ℕ) → Near (l + r) 1 a k → l ≤ a → Close (a - l) r k
over l r a k at g = record { most = omega (arith, at.not_above); least = omega (arith, at.not_below) }

pub over_behind : (l r a k : ℕ) → Near (l + r) 1 a k → a < l → 2 * r ≤ k
over_behind l r a k at g = omega (arith, at.not_below)

pub across : (l r a k : ℕ) → l ≤ r → Near (r - l) 1 a k → Close (a + l) r k
across l r a k g at = record { most = omega (arith, at.not_above); least = omega (arith, at.not_below) }

pub across_none : (l r a k : ℕ) → l ≡ r → Near (l - r) 1 a k → Close (a + l) r k
across_none l r a k g at = record { most = omega (arith, at.not_above); least = omega (arith, at.not_below) }

pub under : (l r a k : ℕ) → r ≤ l → Near (l - r) 1 a k → a ≤ l → Close (l - a) r k
under l r a k g at f = record { most = omega (arith, at.not_below); least = omega (arith, at.not_above) }

pub under_behind : (l r a k : ℕ) → r ≤ l → Near (l - r) 1 a k → l ≤ a → 2 * r ≤ k
under_behind l r a k g at f = omega (arith, at.not_above)

pub under_none : (l r a k : ℕ) → r ≤ l → Near (l - r) 1 a k → a ≡ l → Close (a - l) r k
under_none l r a k g at f = record { most = omega arith; least = omega (arith, at.not_above) }

-- ---- room for each rounding
module _ (w h e : ℕ) (is : w ≡ 16777216 * h) (wide : 128 * w ≤ e) (narrow : e ≤ 4096 * w) where
  pub r1_room : (q r1 : ℕ) → q < 65535 → Near (q * w) 65535 r1 h → r1 ≤ w
  r1_room q r1 l one =
      let qw : q * w ≤ 65534 * w = mul-le-mul_right w (omega arith) in
      omega (arith, one.not_above)

  pub r2_room : (r1 : ℕ) → r1 ≤ w → r1 * e * w ≤ 4096 * w * (w * w)
  r2_room r1 l = omega (arith, mul-le-mul_right w (mul-le-mul l narrow))

  module _ (r2 x : ℕ) (small : r2 ≤ e) (three : Close x r2 (16384 * h)) where
    pub x_room : x ≤ 8192 * w
    x_room = omega (arith, three.most)

    pub t_room : (d : ℕ) → Near x 1 d (8192 * h) → d * w * w ≤ 2 * w * (e * w)
    t_room d four =
        let twice : d ≤ 2 * e = omega (arith, three.most, four.not_above) in
        omega (arith, mul-le-mul_right w (mul-le-mul_right w twice))

-- ---- from a fraction n / d to x units of 1 / w
module _ (w d : ℕ) (some : 0 < d) where
  pub at_least : (b n x : ℕ) → n * w ≡ x * d → b * d ≤ n → b * w ≤ x
  at_least b n x e l = le_of_mul-le-mul_right {k = d} (omega (arith, mul-le-mul_right w l)) some

  pub at_most : (b n x : ℕ) → n * w ≡ x * d → n ≤ b * d → x ≤ b * w
  at_most b n x e l = le_of_mul-le-mul_right {k = d} (omega (arith, mul-le-mul_right w l)) some

  pub sum_at_most : (b n x m y c : ℕ) → 0 < c → n * w ≡ x * d → m * w ≡ y * c → n * c + m * d ≤ b * (d * c) → x + y ≤ b * w
  sum_at_most b n x m y c p e f l =
      le_of_mul-le-mul_right {k = d * c} (omega (arith, mul-le-mul_right w l, ap (λ (z : ℕ). z * c) e, ap (λ (z : ℕ). z * d) f)) (mul-pos some p)

pub in_units : (m u w j d : ℕ) → u * w ≡ j * d → m * u * w ≡ m * j * d
in_units m u w j d e = omega (arith, ap (λ (x : ℕ). m * x) e)

pub as_one : (n u w j d : ℕ) → u * w ≡ j * d → 1 * (n * u) * w ≡ n * j * (1 * d)
as_one n u w j d e = omega (arith, ap (λ (x : ℕ). n * x) e)

pub exact_two : (w e k : ℕ) → Near (w * e) w e k
exact_two w e k = record { not_above = omega arith; not_below = omega arith }

pub same_value : (a b c d v z : ℕ) → 0 < c → a * d ≡ b * c → v * c ≡ a * z → v * d ≡ b * z
same_value a b c d v z p e f = eq_of_mul-eq-mul_right c p (v * d) (b * z) (omega (arith, ap (λ (x : ℕ). x * d) f, ap (λ (x : ℕ). x * z) e))

pub wider : (l k e b : ℕ) → k ≤ e → l + e ≤ b → l + k ≤ b
wider l k e b g f = omega arith

pub not_tiny : (w e : ℕ) → 0 < w → 128 * w ≤ e → e * 8388608 < 1 * w → ⊥
not_tiny w e p g f = omega arith

pub capped : (w h n p : ℕ) → w ≡ 16777216 * h → 0 < h → n ≤ w → Near (n * 65535) 1 p (65536 * h) → nearest_whole p w ≤ 65535
capped w h n p is some g six =
    let l : nearest_whole p w < 65536 = (div-lt_iff_lt-mul {k = 2 * w} (omega arith)).1 (omega (arith, six.not_above)) in
    omega arith
