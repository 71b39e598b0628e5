-- An `f32` above 1/4 and below 65535 as a fixed-point number: it is a whole number of 2 ^ -25ths, and 2 ^ 27 more, at `f64`, has just those for its digits. Assumes nothing.
use mathlib.Core.Path.{◌≡◌, refl, sym, ap, ◌∙◌, subst}
use mathlib.Core.Bool.{true, false, true≢false}
use Prim.Native.Nat.{ℕ, suc, ◌+◌, ◌-◌, ◌*◌, ◌/◌, ◌%◌, ◌^◌, ◌≤◌, ◌<◌}
use native.Mathlib.Nat.{le_antisymm, lt_of_not-le, lt_of_lt_of_le, le_trans, lt_irrefl, mul-div_cancel, mul-le-mul_right, mul_assoc, le-div_iff_mul-le, div-eq_of_lt}
use native.Mathlib.Omega.{arith}
use lib.Dec.{T, lit≤, lit<}
use lib.IntN.{ℤ, pos, negsuc}
use lib.Pow.{pow_pos, pow_mono, shl_lt}
use borrow.Author.Tests.{ltb-true, ltb-false}
use lib.Ieee.{Float, nan, inf, fin, binary32, binary64, up, down, size, lt, add, sum, round, fits, to_bits}
use lib.Ieee.Digits.{size-le, size-lt}
use lib.Ieee.Exact.{HasValue, round_exact}
use lib.Ieee.Fits.{down_pos}
use Rattle.math.proofs.Whole.{lt_true}
use Rattle.quantise.specs.Short.{most, nearest_whole}
use Rattle.quantise.specs.Steps.{rounded_u16}
use Rattle.math.proofs.Scaled.{within, units}
use Rattle.quantise.proofs.Ops.{add_at}
use Rattle.quantise.proofs.Chain.{in_units}
use Rattle.quantise.proofs.Units.{rounded_value}

-- ---- the digits of an `f64` from 2 ^ 27 to 2 ^ 28
size_is : (n k : ℕ) → 2 ^ k ≤ n → n < 2 ^ suc k → size n ≡ suc k
size_is n k l u = le_antisymm (size-le n (suc k) u) (lt_of_not-le (λ (h : size n ≤ k). lt_irrefl n (lt_of_lt_of_le (size-lt n) (le_trans (pow_mono h) l))))

in_smallest : (u c d q l j : ℕ) → u * c ≡ q * d → j * c ≡ l → u * l ≡ q * j * d
in_smallest u c d q l j h e = ap (λ (x : ℕ). u * x) (sym e) ∙ omega (arith, ap (λ (x : ℕ). j * x) h)

module _ (n : ℕ) (h : n < 2 ^ 52) where
  abbrev digits : ℕ
  digits = n + 2 ^ 52

  abbrev smallest : ℕ
  smallest = digits * 2 ^ 1049

  smallest_size : size smallest ≡ 1102
  smallest_size =
      let low : 2 ^ 52 ≤ digits = omega arith in
      let high : digits < 2 ^ 53 = omega arith in
      size_is smallest 1101 (mul-le-mul_right (2 ^ 1049) low) (shl_lt 53 1049 high)

  pub low_digits : (x : Float) → HasValue x false digits (2 ^ 25) → to_bits binary64 x % 2 ^ 52 ≡ n
  unfolding to_bits
  low_digits nan v = absurd v
  low_digits (inf s) v = absurd v
  low_digits (fin true m e) v = absurd (true≢false v.0)
  low_digits (fin false m e) v =
      let whole : m * up e * 2 ^ 1074 / down e ≡ smallest = ap (λ (x : ℕ). x / down e) (in_smallest (m * up e) (2 ^ 25) (down e) digits (2 ^ 1074) (2 ^ 1049) v.1 refl) ∙ mul-div_cancel smallest (down_pos e) in
      let cut : smallest / 2 ^ 1049 ≡ digits = mul-div_cancel digits (pow_pos 1049) in
      ap (λ (x : ℕ). (0 + (size x - 53) * 2 ^ 52 + x / 2 ^ (size x - 53)) % 2 ^ 52) whole
      ∙ ap (λ (k : ℕ). (0 + (k - 53) * 2 ^ 52 + smallest / 2 ^ (k - 53)) % 2 ^ 52) smallest_size
      ∙ ap (λ (x : ℕ). (0 + 1049 * 2 ^ 52 + x) % 2 ^ 52) cut
      ∙ omega arith

-- ---- an `f32` above 1/4
abbrev pub quarter : Float
quarter = fin false 1 (negsuc 1)

-- 2 ^ 27
abbrev pub raise : Float
raise = fin false 1 (pos 27)

pow_lt_back : (a l : ℕ) → 2 ^ a < 2 ^ l → a < l
pow_lt_back a l h = lt_of_not-le (λ (g : l ≤ a). lt_irrefl (2 ^ a) (lt_of_lt_of_le h (pow_mono g)))

coarse : (m : ℕ) (e : ℤ) → m < 2 ^ 24 → 1 * down e < m * up e * 2 ^ 2 → down e ≤ 2 ^ 25
coarse m (pos a) d h = lit≤ tt
coarse m (negsuc a) d h =
    let few : 2 ^ suc a < 2 ^ 26 = omega arith in
    let less : suc a < 26 = pow_lt_back (suc a) 26 few in
    pow_mono {i = suc a} {j = 25} (omega arith)

-- p is n / 2 ^ 25, and n is what is read off
pub record Fixed (p : Float) (n : ℕ) : Type 0 where
  pub below : n < 65535 * 2 ^ 25
  pub value : HasValue p false n (2 ^ 25)
  pub raised : HasValue (add binary64 p raise) false (n + 2 ^ 52) (2 ^ 25)

abbrev pub read : Float → ℕ
read p = to_bits binary64 (add binary64 p raise) % 2 ^ 52

raised_value : (p : Float) (n : ℕ) → HasValue p false n (2 ^ 25) → n < 2 ^ 52 → HasValue (add binary64 p raise) false (n + 2 ^ 52) (2 ^ 25)
unfolding sum
raised_value p n v l =
    let is : add binary64 p raise ≡ round binary64 false (n + 2 ^ 52) (2 ^ 25) = add_at binary64 p raise false false n (2 ^ 52) (2 ^ 25) (pow_pos 25) v (refl, refl) in
    let small : n + 2 ^ 52 < 2 ^ 53 = omega arith in
    let exact = round_exact binary64 false (n + 2 ^ 52) (2 ^ 25) (n + 2 ^ 52) 1049 (pow_pos 25) small (lt_of_lt_of_le (shl_lt 53 1049 small) (pow_mono {i = 1102} {j = 2098} (lit≤ tt))) (sym (mul_assoc (n + 2 ^ 52) (2 ^ 1049) (2 ^ 25))) in
    subst (λ (x : Float). HasValue x false (n + 2 ^ 52) (2 ^ 25)) (sym is) exact

pub fixed : (p : Float) → T (fits binary32 p) → lt quarter p ≡ true → lt p most ≡ true → Fixed p (read p)
unfolding lt
fixed nan t g h = absurd (true≢false (sym g))
fixed (inf true) t g h = absurd (true≢false (sym g))
fixed (inf false) t g h = absurd (true≢false (sym h))
fixed (fin true m e) t g h = absurd (true≢false (sym g))
fixed (fin false m e) t g h =
    let u = units 25 e (coarse m e (within false m e t).digits (ltb-true (1 * down e) (m * up e * 2 ^ 2) g)) in
    let n = m * 2 ^ u.0 in
    let v : HasValue (fin false m e) false n (2 ^ 25) = (refl, in_units m (up e) (2 ^ 25) (2 ^ u.0) (down e) u.1) in
    let less : n * 1 < 65535 * 2 ^ 25 = lt_true (fin false m e) most n (2 ^ 25) 65535 1 (pow_pos 25) (lit< tt) v (refl, refl) h in
    let room : n < 2 ^ 52 = omega arith in
    let r = raised_value (fin false m e) n v room in
    subst (Fixed (fin false m e)) (sym (low_digits n room (add binary64 (fin false m e) raise) r)) (record { below = omega arith; value = v; raised = r })

-- ---- to the nearest whole number, by which of the tests came out
module _ (p : Float) (t : T (fits binary32 p)) where
  pub rounds_inside : lt quarter p ≡ true → lt p most ≡ true → nearest_whole (read p) (2 ^ 25) ≡ rounded_u16 p
  rounds_inside g h =
      let f = fixed p t g h in
      let is = rounded_value p (read p) (2 ^ 25) (pow_pos 25) f.value in
      omega (arith, f.below)

pub rounds_above : (p : Float) → lt quarter p ≡ true → lt p most ≡ false → 65535 ≡ rounded_u16 p
unfolding lt rounded_u16
rounds_above nan g h = absurd (true≢false (sym g))
rounds_above (inf true) g h = absurd (true≢false (sym g))
rounds_above (inf false) g h = refl
rounds_above (fin true m e) g h = absurd (true≢false (sym g))
rounds_above (fin false m e) g h =
    let far : 65535 * down e ≤ m * up e * 1 = ltb-false (m * up e * 1) (65535 * down e) h in
    let more : 65535 ≤ nearest_whole (m * up e) (down e) = (le-div_iff_mul-le {k = 2 * down e} (omega (arith, down_pos e))).1 (omega arith) in
    omega arith

pub rounds_below : (p : Float) → lt quarter p ≡ false → 0 ≡ rounded_u16 p
unfolding lt rounded_u16
rounds_below nan g = refl
rounds_below (inf true) g = refl
rounds_below (inf false) g = absurd (true≢false g)
rounds_below (fin true m e) g = refl
rounds_below (fin false m e) g =
    let little : m * up e * 2 ^ 2 ≤ 1 * down e = ltb-false (1 * down e) (m * up e * 2 ^ 2) g in
    let none : nearest_whole (m * up e) (down e) ≡ 0 = div-eq_of_lt (omega (arith, down_pos e)) in
    omega arith
