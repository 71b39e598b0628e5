-- Which results are numbers, and of which sign: `round` keeps the sign it is given, and on a finite box a coordinate is never a NaN. Assumes nothing.
use mathlib.Core.Path.{◌≡◌, refl, ap, ◌∙◌, subst}
use mathlib.Core.Logic.{inl, inr}
use mathlib.Core.Bool.{Bool, true, false, not, cond, beq, ◌&&◌}
use Prim.Native.Nat.{ℕ, zero, suc, ◌+◌, ◌-◌, ◌*◌, ◌^◌, ◌≤◌, ◌<◌}
use native.Mathlib.Nat.{eq-or-lt_of_le, le_of_lt, le_trans, mul_comm, mul-le-mul_right, mul-one}
use lib.Dec.{T, ltb, lit≤, lit<}
use lib.IntN.{pos}
use lib.Ieee.{Float, nan, inf, fin, Format, binary32, prec, low, emax, up, down, odd, units, round, sum, add, mul, div, of_int, is_nan}
use lib.Ieee.Scale.{finite}
use lib.Ieee.Back.{round_whole}
use lib.Ieee.Exact.{HasValue}
use lib.Ieee.Fits.{round_is}
use Rattle.quantise.specs.Short.{coordinate, most, unit}
use Rattle.quantise.proofs.Near.{Near, rounds_near}
use Rattle.quantise.proofs.Ops.{div_at}
use Rattle.quantise.proofs.Units.{w, h}

-- a number with the sign s
abbrev pub signed : Bool → Float → Bool
signed s nan = false
signed s (inf t) = beq s t
signed s (fin t m e) = beq s t

own_sign : (s : Bool) → T (beq s s)
own_sign true = tt
own_sign false = tt

module _ (f : Format) (s : Bool) where
  odd_signed : (b : Bool) (q k : ℕ) → T (signed s (cond b (odd (suc (prec f)) s q k (low f)) (inf s)))
  unfolding odd
  odd_signed false q k = own_sign s
  odd_signed true zero k = own_sign s
  odd_signed true (suc q) k = own_sign s

  units_signed : (q k : ℕ) → T (signed s (units f s q k))
  unfolding units
  units_signed q k = odd_signed (ltb (q * 2 ^ k) (2 ^ (low f + suc (emax f)))) q k

  pub round_signed : (a c : ℕ) → T (signed s (round f s a c))
  round_signed a c = rw round_is (units_signed _ _)

-- ---- a coordinate
signed_number : (s : Bool) (x : Float) → T (signed s x) → T (not (is_nan x))
unfolding is_nan
signed_number s nan t = absurd t
signed_number s (inf u) t = tt
signed_number s (fin u m e) t = tt

round_number : (f : Format) (s : Bool) (a c : ℕ) → T (not (is_nan (round f s a c)))
round_number f s a c = signed_number s (round f s a c) (round_signed f s a c)

value_finite : (x : Float) (s : Bool) (a c : ℕ) → HasValue x s a c → T (finite x)
value_finite nan s a c v = absurd v
value_finite (inf t) s a c v = absurd v
value_finite (fin t m e) s a c v = tt

pub value_number : (x : Float) (s : Bool) (a c : ℕ) → HasValue x s a c → T (not (is_nan x))
unfolding is_nan
value_number nan s a c v = absurd v
value_number (inf t) s a c v = absurd v
value_number (fin t m e) s a c v = tt

mul_number : (f : Format) (x y : Float) → T (finite x) → T (finite y) → T (not (is_nan (mul f x y)))
unfolding mul
mul_number f (fin s m e) (fin t n d) p q = round_number f _ _ _
mul_number f nan y p q = absurd p
mul_number f (inf s) y p q = absurd p
mul_number f (fin s m e) nan p q = absurd q
mul_number f (fin s m e) (inf t) p q = absurd q

cond_number : (b : Bool) (x y : Float) → T (not (is_nan x)) → T (not (is_nan y)) → T (not (is_nan (cond b x y)))
cond_number true x y p q = p
cond_number false x y p q = q

sum_number : (f : Format) (s : Bool) (a : ℕ) (t : Bool) (b c : ℕ) → T (not (is_nan (sum f s a t b c)))
unfolding sum
sum_number f s a t b c =
    let over = round f t (b - a) c in
    let under = round f (s && ltb b a) (a - b) c in
    cond_number (beq s t) (round f s (a + b) c) (cond (ltb a b) over under) (round_number f s (a + b) c)
    (cond_number (ltb a b) over under (round_number f t (b - a) c) (round_number f (s && ltb b a) (a - b) c))

add_number : (f : Format) (x y : Float) → T (finite x) → T (not (is_nan y)) → T (not (is_nan (add f x y)))
unfolding add is_nan
add_number f (fin s m e) (fin t n d) p q = sum_number f s (m * up e * down d) t (n * up d * down e) (down e * down d)
add_number f (fin s m e) (inf t) p q = tt
add_number f nan y p q = absurd p
add_number f (inf s) y p q = absurd p
add_number f (fin s m e) nan p q = absurd q

-- ---- the part of the way that a short stands for: q / 65535, rounded
module _ (q : ℕ) (l : q < 65535) where
  first_value : HasValue (of_int binary32 (pos q)) false q 1
  unfolding of_int
  first_value = round_whole binary32 false q (le_trans (le_of_lt l) (lit≤ tt))

  pub part_is : div binary32 (of_int binary32 (pos q)) most ≡ round binary32 false q 65535
  part_is = div_at binary32 (of_int binary32 (pos q)) most false q 1 65535 1 (lit< tt) (lit< tt) (lit< tt) first_value (refl, refl) ∙ ap (λ (x : ℕ). round binary32 false x 65535) (mul-one q)

  pub part_near : (g : ℕ) × HasValue (round binary32 false q 65535) false g w × Near (q * w) 65535 g h
  part_near = rounds_near false q 65535 125 (lit< tt) (lit≤ tt) (subst (λ (x : ℕ). q * w ≤ x) (mul_comm 65535 w) (mul-le-mul_right w (le_of_lt l)))

pub last_part : div binary32 (of_int binary32 (pos 65535)) most ≡ unit
unfolding div of_int
last_part = refl

part_finite : (q : ℕ) → q ≤ 65535 → T (finite (div binary32 (of_int binary32 (pos q)) most))
part_finite q l = elim (eq-or-lt_of_le l) [
  | inl e ↦ rw (e, last_part) tt
  | inr less ↦ rw (part_is q less) (value_finite (round binary32 false q 65535) false (part_near q less).0 w (part_near q less).1)
]

pub coordinate_number : (q : ℕ) (lo extent : Float) → q ≤ 65535 → T (finite lo) → T (finite extent) → T (not (is_nan (coordinate q lo extent)))
unfolding coordinate
coordinate_number q lo extent l p r = add_number binary32 lo _ p (mul_number binary32 _ extent (part_finite q l) r)
