-- Which words are the bits of a finite float: those whose exponent field is not all ones, by one comparison; and that such a float's bits are the word again. Assumes nothing.
use Rattle.std.proofs.Common.{◌≡◌, ℕ, zero, suc, ◌+◌, ◌/◌, ◌%◌, ◌^◌, ◌<◌, ◌≤◌, Bool, true, false, cond, not, T, eqb, ltb, sym, refl, ap, ◌∙◌, inl, inr, true≢false, eq-or-lt_of_le, arith, le-ltb, lt-ltb, eq-eqb, ne_eqb}
use lib.Ieee.{Float, nan, inf, fin, binary32, odd, of_fields, of_bits, to_bits, is_nan}
use lib.Ieee.Scale.{finite}
use lib.Ieee.Bits.{to_bits-of_bits}

odd_finite : (d : ℕ) (s : Bool) (q k l : ℕ) → finite (odd d s q k l) ≡ true
unfolding odd
odd_finite d s zero k l = refl
odd_finite d s (suc q) k l = refl

fields_finite : (s : Bool) (x t : ℕ) → finite (of_fields binary32 s x t) ≡ not (eqb x 255)
unfolding of_fields
fields_finite s zero t = odd_finite 24 s t 0 149
fields_finite s (suc x) t = go (eqb (suc x) 255) (eqb t 0)
  where
    go : (b c : Bool) → finite (cond b (cond c (inf s) nan) (odd 24 s (8388608 + t) x 149)) ≡ not b
    go true true = refl
    go true false = refl
    go false c = odd_finite 24 s (8388608 + t) x 149

field : (n : ℕ) → n < 2 ^ 31 → not (eqb (n / 2 ^ 23) 255) ≡ ltb n 0x7f80_0000
field n h = elim (eq-or-lt_of_le most) [
  | inl e ↦ ap not (eq-eqb (n / 2 ^ 23) 255 e) ∙ sym (le-ltb n 0x7f80_0000 (omega arith))
  | inr l ↦
      let other : n / 2 ^ 23 ≡ 255 → ⊥ = λ e. omega arith in
      ap not (ne_eqb (n / 2 ^ 23) 255 other) ∙ sym (lt-ltb n 0x7f80_0000 (omega arith))
]
  where
    most : n / 2 ^ 23 ≤ 255
    most = omega arith

pub finite_bits : (b : ℕ) → finite (of_bits binary32 b) ≡ ltb (b % 2 ^ 31) 0x7f80_0000
unfolding of_bits
finite_bits b = fields_finite _ (b % 2 ^ 31 / 2 ^ 23) (b % 2 ^ 23) ∙ field (b % 2 ^ 31) (omega arith)

finite_number : (x : Float) → finite x ≡ true → T (not (is_nan x))
unfolding is_nan
finite_number nan e = absurd (true≢false (sym e))
finite_number (inf s) e = tt
finite_number (fin s m k) e = tt

-- the bits of a finite float are the word that it was made of
pub float_back : (w : ℕ) → w < 2 ^ 32 → ltb (w % 2 ^ 31) 0x7f80_0000 ≡ true → to_bits binary32 (of_bits binary32 w) ≡ w
float_back w h f = to_bits-of_bits binary32 w h (finite_number (of_bits binary32 w) (finite_bits w ∙ f))
