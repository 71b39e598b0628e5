-- x times 2 ^ k, for an `f32` x and a k that an `f64` has room for, is exact at `f64`. Assumes nothing.
use Rattle.std.proofs.Common.{◌≡◌, ℕ, zero, suc, ◌+◌, ◌-◌, ◌*◌, ◌%◌, ◌^◌, ◌<◌, ◌≤◌, Bool, true, false, ◌&&◌, T, eqb, ltb, leb, ℤ, pos, negsuc, sym, ap, ◌∙◌, subst, le_trans, lt_of_lt_of_le, le_of_suc-le-suc, lt_irrefl, mul-le-mul_right, mul_assoc, lt_of_mul-lt-mul_right, mul-lt-mul_of_pos_right, mul-pos, one-mul, lt_of_not-le, zero-mul, mul-one, arith, lit<, lit≤, eqb→eq, ltb→lt, leb→le, pow_pos, pow_mono, pow-add, shl_lt}
use lib.Pow.{pow-lt}
use lib.Ieee.{fin, binary32, binary64, up, down, mul, round, fits}
use lib.Ieee.Fits.{up_pos, down_pos, and_l, and_r}
use lib.Ieee.Digits.{back}
use lib.Ieee.Exact.{HasValue, round_exact}

-- what an `f32` that is finite has for its m and its e
pub record Within (m : ℕ) (e : ℤ) : Type 0 where
  pub digits : m < 2 ^ 24
  pub fine : down e ≤ 2 ^ 149
  pub under : m * up e < 2 ^ 128 * down e

pub within : (s : Bool) (m : ℕ) (e : ℤ) → T (fits binary32 (fin s m e)) → Within m e
unfolding fits
within s zero e t =
    let one : up e * down e ≡ 1 = eqb→eq (up e * down e) 1 t in
    let le : 1 * down e ≤ up e * down e = mul-le-mul_right (down e) (up_pos e) in
    let fine : down e ≤ 1 = omega arith in
    record { digits = lit< tt; fine = le_trans fine (pow_mono {i = 0} {j = 149} (lit≤ tt)); under = rw zero-mul (mul-pos (pow_pos 128) (down_pos e)) }
within s (suc m) e t =
    let a = eqb (suc m % 2) 1 in
    let b = ltb (suc m) (2 ^ 24) in
    let c = leb (down e) (2 ^ 149) in
    let d = ltb (suc m * up e) (2 ^ 128 * down e) in
    let abc = and_l (a && b && c) d t in
    record {
      digits = ltb→lt (suc m) (2 ^ 24) (and_r a b (and_l (a && b) c abc));
      fine = leb→le (down e) (2 ^ 149) (and_r (a && b) c abc);
      under = ltb→lt (suc m * up e) (2 ^ 128 * down e) (and_r (a && b && c) d t);
    }

pow_le_back : (a l : ℕ) → 2 ^ a ≤ 2 ^ l → a ≤ l
pow_le_back a l h = le_of_suc-le-suc (lt_of_not-le (λ (g : suc l ≤ a). lt_irrefl (2 ^ l) (lt_of_lt_of_le (pow-lt g) h)))

-- m * 2 ^ e in units of an `f64`'s smallest value, 2 ^ -l, is m * 2 ^ j
pub units : (l : ℕ) (e : ℤ) → down e ≤ 2 ^ l → (j : ℕ) × (up e * 2 ^ l ≡ 2 ^ j * down e)
units l (pos a) h = (a + l, sym (pow-add 2 a l) ∙ sym (mul-one (2 ^ (a + l))))
units l (negsuc a) h =
    let le : suc a ≤ l = pow_le_back (suc a) l h in
    (l - suc a, one-mul (2 ^ l) ∙ sym (ap (λ (x : ℕ). 2 ^ x) (back l (suc a) le)) ∙ pow-add 2 (l - suc a) (suc a))

regroup : (m u k l j d : ℕ) → u * l ≡ j * d → m * u * (1 * k) * l ≡ m * (j * k) * (d * 1)
regroup m u k l j d h = omega (arith, ap (λ (x : ℕ). m * k * x) h)

cancel : (m u l j d b : ℕ) → 0 < l → u * l ≡ j * d → m * u < b * d → m * j < b * l
cancel m u l j d b p h q =
    lt_of_mul-lt-mul_right d (omega (arith, mul-lt-mul_of_pos_right q p, ap (λ (x : ℕ). m * x) h))

module _ (s : Bool) (m : ℕ) (e : ℤ) (w : Within m e) (k : ℕ) (room : k ≤ 896) where
  -- with each 1 that `mul` multiplies by
  at_f64 : HasValue (round binary64 s (m * up e * (1 * 2 ^ k)) (down e * 1)) s (m * up e * (1 * 2 ^ k)) (down e * 1)
  at_f64 =
      let u = units 1074 e (le_trans w.fine (pow_mono {i = 149} {j = 1074} (lit≤ tt))) in
      let j = u.0 in
      let small : m * 2 ^ j < 2 ^ 1202 = cancel m (up e) (2 ^ 1074) (2 ^ j) (down e) (2 ^ 128) (pow_pos 1074) u.1 w.under in
      let split : m * (2 ^ j * 2 ^ k) ≡ m * 2 ^ (j + k) = ap (λ (x : ℕ). m * x) (sym (pow-add 2 j k)) in
      let under : m * 2 ^ j * 2 ^ k < 2 ^ 2098 = lt_of_lt_of_le (shl_lt 1202 k small) (pow_mono {i = 1202 + k} {j = 2098} (omega arith)) in
      round_exact binary64 s (m * up e * (1 * 2 ^ k)) (down e * 1) m (j + k) (mul-pos (down_pos e) (lit< tt))
      (lt_of_lt_of_le w.digits (pow_mono {i = 24} {j = 53} (lit≤ tt)))
      (subst (λ (x : ℕ). x < 2 ^ 2098) (mul_assoc m (2 ^ j) (2 ^ k) ∙ split) under)
      (regroup m (up e) (2 ^ k) (2 ^ 1074) (2 ^ j) (down e) u.1 ∙ ap (λ (x : ℕ). x * (down e * 1)) split)

  plain : HasValue (round binary64 s (m * up e * (1 * 2 ^ k)) (down e * 1)) s (m * up e * 2 ^ k) (down e)
  plain =
      subst (λ (a : ℕ). HasValue (round binary64 s (m * up e * (1 * 2 ^ k)) (down e * 1)) s (m * up e * a) (down e)) (one-mul (2 ^ k))
      (subst (λ (d : ℕ). HasValue (round binary64 s (m * up e * (1 * 2 ^ k)) (down e * 1)) s (m * up e * (1 * 2 ^ k)) d) (mul-one (down e)) at_f64)

pub scaled : (s : Bool) (m : ℕ) (e : ℤ) → Within m e → (k : ℕ) → k ≤ 896 → HasValue (mul binary64 (fin s m e) (fin false 1 (pos k))) s (m * up e * 2 ^ k) (down e)
unfolding mul
scaled true m e w k room = plain true m e w k room
scaled false m e w k room = plain false m e w k room
