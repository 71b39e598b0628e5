-- An `f32` in units of the smallest value, and how a fraction is clamped. Assumes nothing.
use mathlib.Core.Path.{◌≡◌, refl, ap, subst}
use mathlib.Core.Bool.{Bool, true, false, true≢false}
use Prim.Native.Nat.{ℕ, ◌+◌, ◌*◌, ◌^◌, ◌≤◌, ◌<◌, min}
use native.Mathlib.Nat.{mul-le-mul_right, mul-one}
use native.Mathlib.Omega.{arith}
use lib.Dec.{lit<}
use lib.Pow.{pow_pos}
use lib.Ieee.{Float, nan, inf, fin, binary32, up, down, round, lt}
use lib.Ieee.Exact.{HasValue}
use lib.Ieee.Fits.{down_pos}
use lib.Ieee.Nearest.{div_same}
use Rattle.quantise.specs.Short.{clamped, nearest_number, nearest_whole, unit, nought}
use Rattle.quantise.specs.Steps.{rounded_u16}
use Rattle.quantise.proofs.Near.{Near, rounds_near}
use Rattle.quantise.proofs.Chain.{cancel}
use Rattle.math.proofs.Whole.{lt_true, lt_false}

-- 1 and 2 ^ -24 in units of the smallest value
abbrev pub w : ℕ
w = 2 ^ 149

abbrev pub h : ℕ
h = 2 ^ 125

-- x is a whole number of units
pub record Rounded (s : Bool) (a b : ℕ) (x : Float) : Type 0 where
  pub units : ℕ
  pub value : HasValue x s units w
  pub near : Near a 1 units (2 ^ b)

pub rounded : (s : Bool) (a b : ℕ) → b ≤ 200 → a ≤ 2 ^ (24 + b) → Rounded s a b (round binary32 s a w)
rounded s a b room l =
    let r = rounds_near s a w b (pow_pos 149) room (mul-le-mul_right w l) in
    record { units = r.0; value = r.1; near = cancel a 1 r.0 (2 ^ b) w (pow_pos 149) r.2 }

-- ---- a fraction that is not negative
pub rounded_value : (x : Float) (a c : ℕ) → 0 < c → HasValue x false a c → rounded_u16 x ≡ min (nearest_whole a c) 65535
unfolding rounded_u16
rounded_value nan a c p v = absurd v
rounded_value (inf s) a c p v = absurd v
rounded_value (fin true m e) a c p v = absurd (true≢false v.0)
rounded_value (fin false m e) a c p v =
    ap (λ (n : ℕ). min n 65535)
    (div_same (2 * (m * up e) + down e) (2 * down e) (2 * a + c) (2 * c) (omega (arith, down_pos e)) (omega arith) (omega (arith, v.1)))

pub nearest_value : (x : Float) (s : Bool) (a c : ℕ) → 0 < c → HasValue x s a c → nearest_number x ≡ nearest_whole a c
unfolding nearest_number
nearest_value nan s a c p v = absurd v
nearest_value (inf t) s a c p v = absurd v
nearest_value (fin t m e) s a c p v =
    div_same (2 * (m * up e) + down e) (2 * down e) (2 * a + c) (2 * c) (omega (arith, down_pos e)) (omega arith) (omega (arith, v.1))

pub data Clamps (t : Float) (n : ℕ) : Type 0 where
  at_end : w < n → clamped t ≡ unit → Clamps t n
  in_range : n ≤ w → clamped t ≡ t → Clamps t n

pub clamps : (t : Float) (n : ℕ) → HasValue t false n w → Clamps t n
unfolding clamped
clamps t n v = go (lt t nought) refl (lt unit t) refl
  where
    no_one : 1 * w < n * 1 → w < n
    no_one g = subst (λ (x : ℕ). w < x) (mul-one n) g

    one_no : n * 1 ≤ 1 * w → n ≤ w
    one_no g = subst (λ (x : ℕ). x ≤ w) (mul-one n) g

    go : (a : Bool) → lt t nought ≡ a → (b : Bool) → lt unit t ≡ b → Clamps t n
    go true p b q =
        let g : n * 1 < 0 = lt_true t nought n w 0 1 (pow_pos 149) (lit< tt) v (refl, refl) p in
        absurd (omega arith)
    go false p true q = at_end (no_one (lt_true unit t 1 1 n w (lit< tt) (pow_pos 149) (refl, refl) v q)) (rw (p, q))
    go false p false q = in_range (one_no (lt_false unit t 1 1 n w (lit< tt) (pow_pos 149) (refl, refl) v q)) (rw (p, q))
