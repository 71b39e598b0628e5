-- The facts about `specs/Quarter.antt` that the functions of `src/quarter.rt` rest on. Assumes nothing.
use Rattle.std.proofs.Common.{◌≡◌, ℕ, zero, suc, ◌+◌, ◌-◌, ◌*◌, ◌/◌, ◌^◌, ◌<◌, ◌≤◌, min, Bool, true, false, not, T, ℤ, pos, negsuc, neg_ℤ, sym, refl, ap, ◌∙◌, subst, true≢false, le_trans, mul_comm, le-div_iff_mul-le, div-mul-le_self, arith, lit<, lit≤, w16, to_z, of_z, ltb-false, ltb-true}
use native.Mathlib.Nat.{suc-min-suc, div-eq_of_lt, div-eq_of_lt-le, lt-div-mul-add}
use mir.ValLaws.{to_z-of_z}
use lib.Signed.{mag}
use lib.Ieee.{Float, nan, inf, fin, binary32, binary64, up, down, lt, neg, mul, fits, to_unsigned, of_int, round}
use lib.Ieee.Fits.{down_pos}
use lib.Ieee.Exact.{HasValue}
use lib.Ieee.Back.{round_whole}
use Rattle.quarters.specs.Quarter.{rounded, whole_number, saturated, side}
use Rattle.quarters.specs.Steps.{quarters}
use Rattle.math.specs.Picked.{plain}
use Rattle.math.proofs.Whole.{cut_value, cut_negative, lt_true, lt_false, not_below}
use Rattle.math.proofs.Scaled.{within, scaled}

-- ---- n / d rounded up: the whole part w, and one more where something is left
up_more : (n d w : ℕ) → 0 < d → n / d ≡ w → w * d < n → (n + (d - 1)) / d ≡ w + 1
up_more n d w p e h =
    div-eq_of_lt-le d (omega arith) (omega (arith, lt-div-mul-add {a = n} p, ap (λ (x : ℕ). x * d) e))

up_same : (n d w : ℕ) → 0 < d → n / d ≡ w → n ≤ w * d → (n + (d - 1)) / d ≡ w
up_same n d w p e h =
    div-eq_of_lt-le d (omega (arith, div-mul-le_self n d, ap (λ (x : ℕ). x * d) e)) (omega arith)

up_least : (n d w : ℕ) → 0 < d → w ≤ n / d → w ≤ (n + (d - 1)) / d
up_least n d w p h = (le-div_iff_mul-le p).1 (omega (arith, (le-div_iff_mul-le p).0 h))

-- ---- what `quarters_of` makes of y, which is 4 * x, and of its whole part n
abbrev pub times_4 : Float → Float
times_4 x = mul binary64 x (fin false 1 (pos 2))

pub record Made (ceil : Bool) (x : Float) (n : ℕ) : Type 0 where
  pub far : 32768 ≤ n → 32768 ≡ quarters ceil x
  pub down : n < 32768 → ceil ≡ false → n ≡ quarters ceil x
  pub more : n < 32768 → ceil ≡ true → lt (of_int binary64 (pos n)) (times_4 x) ≡ true → n + 1 ≡ quarters ceil x
  pub same : n < 32768 → ceil ≡ true → lt (of_int binary64 (pos n)) (times_4 x) ≡ false → n ≡ quarters ceil x

-- where `quarters` is 0, the whole part is 0 and 4 * x is not above it
none : (ceil : Bool) (x : Float) (n : ℕ) → n ≡ 0 → quarters ceil x ≡ 0 → lt (of_int binary64 (pos 0)) (times_4 x) ≡ false → Made ceil x n
none ceil x n z q f = record {
  far = λ h. absurd (omega arith);
  down = λ h t. z ∙ sym q;
  more = λ h t l. absurd (true≢false (sym (subst (λ (i : ℕ). lt (of_int binary64 (pos i)) (times_4 x) ≡ true) z l) ∙ f));
  same = λ h t l. z ∙ sym q;
}

-- where 4 * x is a fraction k / d that is not negative
module _ (x : Float) (k d n : ℕ) (p : 0 < d) (v : HasValue (times_4 x) false k d) (is : n ≡ min (k / d) (2 ^ 64 - 1)) where
  -- n as an `f64` has the value n
  own : n < 32768 → HasValue (of_int binary64 (pos n)) false n 1
  unfolding of_int
  own h = round_whole binary64 false n (le_trans (omega arith) (lit≤ {m = 32768} {n = 2 ^ 53} tt))

  some : (ceil : Bool) → quarters ceil x ≡ min (rounded ceil k d) 32768 → Made ceil x n
  some false q = record {
    far = λ h. omega arith;
    down = λ h t. omega arith;
    more = λ h t. absurd (true≢false (sym t));
    same = λ h t. absurd (true≢false (sym t));
  }
  some true q = record {
    far = λ h. omega (arith, up_least k d 32768 p (omega arith));
    down = λ h t. absurd (true≢false t);
    more = λ h t l.
        let g = lt_true (of_int binary64 (pos n)) (times_4 x) n 1 k d (lit≤ tt) p (own h) v l in
        omega (arith, up_more k d n p (omega arith) (omega arith));
    same = λ h t l.
        let g = lt_false (of_int binary64 (pos n)) (times_4 x) n 1 k d (lit≤ tt) p (own h) v l in
        omega (arith, up_same k d n p (omega arith) (omega arith));
  }

value : (s : Bool) (m : ℕ) (e : ℤ) → T (fits binary32 (fin s m e)) → HasValue (times_4 (fin s m e)) s (4 * (m * up e)) (down e)
value s m e t = subst (λ (a : ℕ). HasValue (times_4 (fin s m e)) s a (down e)) (mul_comm (m * up e) 4) (scaled s m e (within s m e t) 2 (lit≤ tt))

pub made : (ceil : Bool) (x : Float) → T (fits binary32 x) → Made ceil x (to_unsigned 64 (times_4 x))
unfolding mul to_unsigned quarters lt of_int round
made ceil nan t = none ceil nan 0 refl refl refl
made ceil (inf true) t = none ceil (inf true) 0 refl refl refl
made ceil (inf false) t = record { far = λ h. refl; down = λ h. absurd (omega arith); more = λ h. absurd (omega arith); same = λ h. absurd (omega arith) }
made ceil (fin true m e) t =
    let y = times_4 (fin true m e) in
    let k = 4 * (m * up e) in
    let v = value true m e t in
    none ceil (fin true m e) (to_unsigned 64 y) (cut_negative 64 y k (down e) v) refl (not_below (of_int binary64 (pos 0)) y 0 1 k (down e) (refl, refl) v)
made ceil (fin false m e) t =
    let y = times_4 (fin false m e) in
    let k = 4 * (m * up e) in
    let v = value false m e t in
    some (fin false m e) k (down e) (to_unsigned 64 y) (down_pos e) v (cut_value 64 y k (down e) (down_pos e) v) ceil refl

-- ---- the sign put back

pub saturated_fits : (z : ℤ) → mag (saturated z) < 2 ^ 15
saturated_fits (pos n) = omega arith
saturated_fits (negsuc n) = omega arith

-- a cut at 32768 does not show
cut_pos : (n : ℕ) → saturated (pos (min n 32768)) ≡ saturated (pos n)
cut_pos n = ap pos (omega arith)

cut_neg : (n : ℕ) → saturated (neg_ℤ (pos (min n 32768))) ≡ saturated (neg_ℤ (pos n))
cut_neg zero = refl
cut_neg (suc n) = ap (λ (k : ℕ). saturated (neg_ℤ (pos k))) (suc-min-suc n 32767) ∙ ap negsuc (omega arith)

-- a zero of either sign
rounded_zero : (ceil : Bool) (n d : ℕ) → 0 < d → n ≡ 0 → rounded ceil n d ≡ 0
rounded_zero false n d p z = div-eq_of_lt {n = n} {m = d} (omega arith)
rounded_zero true n d p z = div-eq_of_lt {n = n + (d - 1)} {m = d} (omega arith)

whole_zero : (ceil s : Bool) (n d : ℕ) → 0 < d → n ≡ 0 → whole_number ceil s n d ≡ pos 0
whole_zero ceil false n d p z = ap pos (rounded_zero ceil n d p z)
whole_zero true true n d p z = ap (λ (k : ℕ). neg_ℤ (pos k)) (rounded_zero false n d p z)
whole_zero false true n d p z = ap (λ (k : ℕ). neg_ℤ (pos k)) (rounded_zero true n d p z)

pub side_negative : (ceil : Bool) (x : Float) → lt x (fin false 0 (pos 0)) ≡ true → saturated (neg_ℤ (pos (quarters (not ceil) (neg x)))) ≡ side ceil x
unfolding lt quarters neg side
side_negative ceil nan h = absurd (true≢false (sym h))
side_negative ceil (inf true) h = refl
side_negative ceil (inf false) h = absurd (true≢false (sym h))
side_negative true (fin true m e) h = cut_neg (4 * (m * up e) / down e)
side_negative false (fin true m e) h = cut_neg ((4 * (m * up e) + (down e - 1)) / down e)
side_negative ceil (fin false m e) h = absurd (omega (arith, ltb-true (m * up e * 1) (0 * down e) h))

pub side_positive : (ceil : Bool) (x : Float) → lt x (fin false 0 (pos 0)) ≡ false → saturated (pos (quarters ceil x)) ≡ side ceil x
unfolding lt quarters side
side_positive ceil nan h = refl
side_positive ceil (inf true) h = absurd (true≢false h)
side_positive ceil (inf false) h = refl
side_positive ceil (fin true m e) h =
    let z = ltb-false 0 (m * up e * 1 + 0 * down e) h in
    ap saturated (sym (whole_zero ceil true (4 * (m * up e)) (down e) (down_pos e) (omega arith)))
side_positive ceil (fin false m e) h = cut_pos (rounded ceil (4 * (m * up e)) (down e))

-- ---- a side is a number of 16 signed bits, and the machine reads it back from its bits
pub side_fits : (ceil : Bool) (x : Float) → mag (side ceil x) < 2 ^ 15
unfolding side
side_fits ceil nan = lit< tt
side_fits ceil (inf true) = lit< tt
side_fits ceil (inf false) = lit< tt
side_fits ceil (fin s m e) = saturated_fits (whole_number ceil s (4 * (m * up e)) (down e))

pub side_read : (ceil : Bool) (x : Float) (r : ℤ) → r ≡ side ceil x → to_z w16 (of_z w16 r) ≡ side ceil x
side_read ceil x r e = to_z-of_z w16 r (record { sfits = rw e (side_fits ceil x) }) ∙ e

-- ---- a zero's sign does not show in it
pub side_plain : (ceil : Bool) (x : Float) → side ceil (plain x) ≡ side ceil x
unfolding side
side_plain ceil nan = refl
side_plain ceil (inf s) = refl
side_plain ceil (fin s zero e) =
    let n = 4 * (0 * up e) in
    ap saturated (whole_zero ceil false n (down e) (down_pos e) (omega arith) ∙ sym (whole_zero ceil s n (down e) (down_pos e) (omega arith)))
side_plain ceil (fin s (suc m) e) = refl
