-- What a float is cut to, from any fraction that it equals. Assumes nothing.
use Rattle.std.proofs.Common.{◌≡◌, ℕ, ◌-◌, ◌*◌, ◌/◌, ◌^◌, ◌<◌, ◌≤◌, min, true, false, sym, refl, ap, true≢false, lt_of_not-le, not-le_of_lt, ltb-false, ltb-true}
use lib.Ieee.{Float, nan, inf, fin, up, down, lt, is_nan, to_unsigned}
use lib.Ieee.Fits.{down_pos}
use lib.Ieee.Exact.{HasValue}
use lib.Ieee.Nearest.{div_same}
use lib.Ieee.Order.{transfer}

-- the one value that is a NaN
pub is_nan_lem : (x : Float) → is_nan x ≡ true → x ≡ nan
unfolding is_nan
is_nan_lem nan h = refl
is_nan_lem (inf s) h = absurd (true≢false (sym h))
is_nan_lem (fin s m e) h = absurd (true≢false (sym h))

-- `Ieee.to_unsigned`, Rust's `as`, of an x that is not negative: the whole part of any fraction that x equals, cut to the range
pub cut_value : (w : ℕ) (x : Float) (a c : ℕ) → 0 < c → HasValue x false a c → to_unsigned w x ≡ min (a / c) (2 ^ w - 1)
unfolding to_unsigned
cut_value w nan a c p v = absurd v
cut_value w (inf s) a c p v = absurd v
cut_value w (fin true m e) a c p v = absurd (true≢false v.0)
cut_value w (fin false m e) a c p v = ap (λ (n : ℕ). min n (2 ^ w - 1)) (div_same (m * up e) (down e) a c (down_pos e) p v.1)

pub cut_negative : (w : ℕ) (x : Float) (a c : ℕ) → HasValue x true a c → to_unsigned w x ≡ 0
unfolding to_unsigned
cut_negative w nan a c v = absurd v
cut_negative w (inf s) a c v = absurd v
cut_negative w (fin true m e) a c v = refl
cut_negative w (fin false m e) a c v = absurd (true≢false (sym v.0))

-- ---- x < y for an x and a y that are not negative, by any fractions a / c and b / d that they equal
below_values : (x y de dd a c b d : ℕ) → 0 < de → 0 < dd → x * c ≡ a * de → y * d ≡ b * dd → y * de ≤ x * dd → b * c ≤ a * d
below_values x y de dd a c b d p q v w h = transfer b a d c y x dd de q p (sym w) (sym v) h

pub lt_true : (x y : Float) (a c b d : ℕ) → 0 < c → 0 < d → HasValue x false a c → HasValue y false b d → lt x y ≡ true → a * d < b * c
unfolding lt
lt_true (fin false m e) (fin false n g) a c b d p q v w h =
    lt_of_not-le (λ (k : b * c ≤ a * d).
    not-le_of_lt (ltb-true (m * up e * down g) (n * up g * down e) h)
    (transfer (n * up g) (m * up e) (down g) (down e) b a d c q p w.1 v.1 k))
lt_true nan y a c b d p q v w h = absurd v
lt_true (inf s) y a c b d p q v w h = absurd v
lt_true (fin true m e) y a c b d p q v w h = absurd (true≢false v.0)
lt_true (fin false m e) nan a c b d p q v w h = absurd w
lt_true (fin false m e) (inf s) a c b d p q v w h = absurd w
lt_true (fin false m e) (fin true n g) a c b d p q v w h = absurd (true≢false w.0)

pub lt_false : (x y : Float) (a c b d : ℕ) → 0 < c → 0 < d → HasValue x false a c → HasValue y false b d → lt x y ≡ false → b * c ≤ a * d
unfolding lt
lt_false (fin false m e) (fin false n g) a c b d p q v w h =
    below_values (m * up e) (n * up g) (down e) (down g) a c b d (down_pos e) (down_pos g) v.1 w.1
    (ltb-false (m * up e * down g) (n * up g * down e) h)
lt_false nan y a c b d p q v w h = absurd v
lt_false (inf s) y a c b d p q v w h = absurd v
lt_false (fin true m e) y a c b d p q v w h = absurd (true≢false v.0)
lt_false (fin false m e) nan a c b d p q v w h = absurd w
lt_false (fin false m e) (inf s) a c b d p q v w h = absurd w
lt_false (fin false m e) (fin true n g) a c b d p q v w h = absurd (true≢false w.0)

-- a value that is not negative is not below one that is
pub not_below : (x y : Float) (a c b d : ℕ) → HasValue x false a c → HasValue y true b d → lt x y ≡ false
unfolding lt
not_below (fin false m e) (fin true n g) a c b d v w = refl
not_below nan y a c b d v w = absurd v
not_below (inf s) y a c b d v w = absurd v
not_below (fin true m e) y a c b d v w = absurd (true≢false v.0)
not_below (fin false m e) nan a c b d v w = absurd w
not_below (fin false m e) (inf s) a c b d v w = absurd w
not_below (fin false m e) (fin false n g) a c b d v w = absurd (true≢false (sym w.0))
