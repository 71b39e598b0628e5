-- `quarters::quarter::quarters_of` meets its contract, by `made` of `proofs/Quarters.antt`. Assumes nothing.
use Rattle.std.proofs.Common.{◌≡◌, ℕ, ◌^◌, Bool, true, false, T, pos, sym, ap, ◌∙◌, subst, le_trans, le_of_lt, lit≤, le→leb}
use lib.Ieee.{Float, binary64, lt, mul, of_int, in_float, of_bits, to_unsigned}
use Rattle.quarters.proofs.Quarters.{Made, made, times_4}
use Rattle.quarters.proofs.quarter.quarters_of.Goals as goal
use Rattle.quarters.proofs.quarter.quarters_of.Goals.{After-saturating_f64_to_u64-n, else-ceil-via-then-ceil+else-n-y, else-ceil-via-else-ceil}

-- what y is, and what is known of its whole part
fourfold : (x y : Float) → y ≡ x → mul binary64 y (of_bits binary64 0x4010_0000_0000_0000) ≡ times_4 x
unfolding of_bits
fourfold x y e = ap times_4 e

known : (c : After-saturating_f64_to_u64-n) → Made c.args.ceil c.args.x c.saturating_f64_to_u64-n.result
known c =
    let is = c.saturating_f64_to_u64-n.ensures ∙ ap (to_unsigned 64) (fourfold c.args.x _ c.f32_to_f64_with_nan-y.ensures) in
    subst (λ (n : ℕ). Made c.args.ceil c.args.x n) (sym is) (made c.args.ceil c.args.x (subst T (sym c.well_formed.0.1) tt))

pub returns-then-n-ge32768 : goal.returns-then-n-ge32768
returns-then-n-ge32768 c = (known (goal.at.returns-then-n-ge32768 c).After-saturating_f64_to_u64-n).far c.if-n-ge32768.true

pub int_to_float-n : goal.int_to_float-n
unfolding in_float
int_to_float-n c = le→leb c.saturating_f64_to_u64-n.result (2 ^ 53) (le_trans (le_of_lt c.if-n-ge32768.false) (lit≤ tt))

-- the last test, of y as it is
tested : (x y : Float) (n : ℕ) (b : Bool) → y ≡ x → lt (of_int binary64 (pos n)) (mul binary64 y (of_bits binary64 0x4010_0000_0000_0000)) ≡ b → lt (of_int binary64 (pos n)) (times_4 x) ≡ b
tested x y n b e h = rw (fourfold x y e) at h

pub returns-then-n-y : goal.returns-then-n-y
returns-then-n-y c = (known (goal.at.returns-then-n-y c).After-saturating_f64_to_u64-n).more c.if-n-ge32768.false c.if-ceil.true (tested c.args.x _ _ true c.f32_to_f64_with_nan-y.ensures c.if-n-y.true)

pub returns-else-ceil : goal.returns-else-ceil
returns-else-ceil c =
    let k = known (goal.at.returns-else-ceil c).After-saturating_f64_to_u64-n in
    elim c.else-ceil.branch [
      | else-ceil-via-then-ceil+else-n-y w ↦ k.same c.if-n-ge32768.false w.if-ceil.true (tested c.args.x _ _ false c.f32_to_f64_with_nan-y.ensures w.if-n-y.false)
      | else-ceil-via-else-ceil w ↦ k.down c.if-n-ge32768.false w.if-ceil.false
    ]
