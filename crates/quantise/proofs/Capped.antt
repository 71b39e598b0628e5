-- Of a clamped fraction the short is at most 65535 by itself: to cut it to 16 bits changes nothing. Assumes nothing.
use mathlib.Core.Path.{◌≡◌, refl, sym, ap, ◌∙◌, subst}
use mathlib.Core.Bool.{Bool, true, false, cond}
use Prim.Native.Nat.{ℕ, ◌+◌, ◌*◌, ◌^◌, ◌≤◌, ◌<◌}
use native.Mathlib.Nat.{le_trans, mul-le-mul_right, mul-pos, min-eq_left}
use native.Mathlib.Omega.{arith}
use lib.Dec.{T, lit≤, lit<}
use lib.IntN.{ℤ}
use lib.Pow.{pow_pos}
use borrow.Author.Tests.{ltb-false}
use lib.Ieee.{Float, nan, inf, fin, binary32, up, down, round, mul, lt, fits}
use lib.Ieee.Fits.{down_pos, div-fits}
use lib.Ieee.Scale.{round_same}
use lib.Ieee.Exact.{HasValue}
use Rattle.quantise.specs.Short.{short, fraction, clamped, nearest_number, magnitude, least, unit, nought, most}
use Rattle.quantise.specs.Steps.{rounded_u16}
use Rattle.math.proofs.Scaled as scaled
use Rattle.quantise.proofs.Ops.{mul_at}
use Rattle.quantise.proofs.Chain.{in_units, capped}
use Rattle.quantise.proofs.Units.{w, h, Rounded, rounded, rounded_value, nearest_value, at_end, in_range, clamps}

-- the cut changes nothing at t * 65535
abbrev Plain : Float → Type 0
Plain t = rounded_u16 (mul binary32 t most) ≡ nearest_number (mul binary32 t most)

at_nought : Plain nought
unfolding rounded_u16 nearest_number mul
at_nought = refl

at_unit : Plain unit
unfolding rounded_u16 nearest_number mul
at_unit = refl

at_nan : Plain nan
unfolding rounded_u16 nearest_number mul
at_nan = refl

-- -0, as a product may write it
minus_nought : rounded_u16 (round binary32 true 0 1) ≡ nearest_number (round binary32 true 0 1)
unfolding rounded_u16 nearest_number round
minus_nought = refl

below_nought : (m : ℕ) (e : ℤ) → Plain (clamped (fin true m e))
unfolding clamped lt mul
below_nought m e = go (lt (fin true m e) nought) refl
  where
    go : (b : Bool) → lt (fin true m e) nought ≡ b → Plain (cond b nought (fin true m e))
    go true p = at_nought
    go false p =
        let z = ltb-false 0 (m * up e * 1 + 0 * down e) p in
        let is : round binary32 true (m * up e * 65535) (down e * 1) ≡ round binary32 true 0 1 = round_same binary32 true (m * up e * 65535) (down e * 1) 0 1 (mul-pos (down_pos e) (lit< tt)) (lit< tt) (omega arith) in
        ap rounded_u16 is ∙ minus_nought ∙ ap nearest_number (sym is)

-- t * 65535, for a t of n units
pub product : (t : Float) (n : ℕ) → HasValue t false n w → n ≤ w → Rounded false (n * 65535) 141 (mul binary32 t most)
product t n v g =
    let is : mul binary32 t most ≡ round binary32 false (n * 65535) w = mul_at binary32 t most false n w 65535 1 (pow_pos 149) (lit< tt) v (refl, refl) in
    subst (Rounded false (n * 65535) 141) (sym is) (rounded false (n * 65535) 141 (lit≤ tt) (le_trans (mul-le-mul_right 65535 g) (lit≤ tt)))

within_unit : (t : Float) (n : ℕ) → HasValue t false n w → n ≤ w → Plain t
within_unit t n v g =
    let p = product t n v g in
    rounded_value (mul binary32 t most) p.units w (pow_pos 149) p.value
    ∙ min-eq_left (capped w h n p.units refl (pow_pos 125) g p.near)
    ∙ sym (nearest_value (mul binary32 t most) false p.units w (pow_pos 149) p.value)

pub uncapped : (t : Float) → T (fits binary32 t) → Plain (clamped t)
unfolding clamped lt
uncapped nan f = at_nan
uncapped (inf true) f = at_nought
uncapped (inf false) f = at_unit
uncapped (fin true m e) f = below_nought m e
uncapped (fin false m e) f =
    let u = scaled.units 149 e (scaled.within false m e f).fine in
    let v : HasValue (fin false m e) false (m * 2 ^ u.0) w = (refl, in_units m (up e) w (2 ^ u.0) (down e) u.1) in
    elim (clamps (fin false m e) (m * 2 ^ u.0) v) [
      | at_end g is ↦ subst Plain (sym is) at_unit
      | in_range g is ↦ subst Plain (sym is) (within_unit (fin false m e) (m * 2 ^ u.0) v g)
    ]

-- ---- so a short has 16 bits
rounded_u16_lt : (x : Float) → rounded_u16 x < 65536
unfolding rounded_u16
rounded_u16_lt nan = lit< tt
rounded_u16_lt (inf true) = lit< tt
rounded_u16_lt (inf false) = lit< tt
rounded_u16_lt (fin true m e) = lit< tt
rounded_u16_lt (fin false m e) = omega arith

pub short_lt : (a lo extent : Float) → short a lo extent < 65536
unfolding short fraction
short_lt a lo extent = go (lt (magnitude extent) least)
  where
    product : Float
    product = mul binary32 (clamped (fraction a lo extent)) most

    go : (b : Bool) → cond b 0 (nearest_number product) < 65536
    go true = lit< tt
    go false = subst (λ (n : ℕ). n < 65536) (uncapped (fraction a lo extent) (div-fits binary32 _ _)) (rounded_u16_lt product)
