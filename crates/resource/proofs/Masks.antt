-- A mask of two bits, and what a test with it says of the bits of an address.
use mathlib.Core.Path.{◌≡◌, refl, ◌∙◌, sym, ap}
use mathlib.Core.Bool.{Bool, true, false, ◌&&◌}
use Prim.Native.Nat.{ℕ, ◌+◌, ◌*◌, ◌-◌, ◌/◌, ◌%◌, ◌^◌}
use native.Mathlib.Nat.{mod-lt, two-pow-succ}
use native.Mathlib.Numerals.{one-add}
use native.Mathlib.Omega.{arith}
use lib.Bits.{bit_and, and_mask, and_high, and_block}
use lib.Pow.{split, pow-lt, pow_pos, field, mod-mod-pow}
use borrow.Author.Tests.{eq-eqb, ne_eqb, eqb-true}
use Rattle.resource.specs.Section.{bit_set, in_graphics, in_system}

-- a mask of bit j alone
one_bit : (j n : ℕ) → bit_and n (2 ^ j) ≡ n / 2 ^ j % 2 * 2 ^ j
one_bit j n =
    let e : 2 ^ (1 + j) - 2 ^ j ≡ 2 ^ j = rw (one-add, two-pow-succ) (omega arith) in
    ap (bit_and n) (sym e) ∙ and_high n 1 j

-- a mask of bits j and d + 1 + j
two_bits : (d j n : ℕ) → bit_and n (2 ^ (d + 1 + j) + 2 ^ j) ≡ n / 2 ^ (d + 1 + j) % 2 * 2 ^ (d + 1 + j) + n / 2 ^ j % 2 * 2 ^ j
two_bits d j n =
    let k : ℕ = d + 1 + j in
    let e : 1 * 2 ^ k + 2 ^ j ≡ 2 ^ k + 2 ^ j = omega arith in
    ap (λ (m : ℕ). bit_and m (2 ^ k + 2 ^ j)) (sym (split n k))
    ∙ ap (λ (m : ℕ). bit_and (n / 2 ^ k * 2 ^ k + n % 2 ^ k) m) (sym e)
    ∙ and_block k (n / 2 ^ k) 1 (n % 2 ^ k) (2 ^ j) (mod-lt n (pow_pos k)) (pow-lt (omega arith))
    ∙ ap (λ (m : ℕ). m * 2 ^ k + bit_and (n % 2 ^ k) (2 ^ j)) (and_mask (n / 2 ^ k) 1)
    ∙ ap (λ (m : ℕ). n / 2 ^ k % 2 * 2 ^ k + m) (one_bit j (n % 2 ^ k) ∙ ap (λ (m : ℕ). m % 2 * 2 ^ j) (field n (d + 1) j) ∙ ap (λ (m : ℕ). m * 2 ^ j) (mod-mod-pow (n / 2 ^ j) d 1))

-- bits j and k of n are both set when each is 1, and not both when that is absurd
pub both_set : (j k n : ℕ) → n / 2 ^ j % 2 ≡ 1 → n / 2 ^ k % 2 ≡ 1 → (bit_set j n && bit_set k n) ≡ true
both_set j k n p q = simp (eq-eqb _ _ p, eq-eqb _ _ q)

pub not_both : (j k n : ℕ) → (n / 2 ^ j % 2 ≡ 1 → n / 2 ^ k % 2 ≡ 1 → ⊥) → (bit_set j n && bit_set k n) ≡ false
not_both j k n absurd-both = by (bit_set j n) refl
  where
    by : (t : Bool) → bit_set j n ≡ t → (t && bit_set k n) ≡ false
    by true e = ne_eqb _ _ (absurd-both (eqb-true _ _ e))
    by false e = refl

module _ (va : ℕ) where
  pub graphics : bit_and va 0x60000000 ≡ 0x60000000 → in_graphics va ≡ true
  graphics h = both_set 29 30 va (omega (arith, two_bits 0 29 va)) (omega (arith, two_bits 0 29 va))

  pub not_graphics : (bit_and va 0x60000000 ≡ 0x60000000 → ⊥) → in_graphics va ≡ false
  not_graphics h = not_both 29 30 va (λ p q. h (omega (arith, two_bits 0 29 va)))

  pub system : bit_and va 0x50000000 ≡ 0x50000000 → in_system va ≡ true
  system h = both_set 28 30 va (omega (arith, two_bits 1 28 va)) (omega (arith, two_bits 1 28 va))

  pub not_system : (bit_and va 0x50000000 ≡ 0x50000000 → ⊥) → in_system va ≡ false
  not_system h = not_both 28 30 va (λ p q. h (omega (arith, two_bits 1 28 va)))
