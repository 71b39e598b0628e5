-- A part that is known to be good lies in the section that its address names.
use Prim.Native.Nat.{ℕ, ◌+◌, ◌-◌, ◌/◌, ◌%◌, ◌^◌, ◌≤◌}
use native.Mathlib.Omega.{arith}
use mathlib.Core.Path.{◌≡◌, refl}
use mathlib.Core.Bool.{Bool, true, false, false≢true, and-eq-true_iff}
use mathlib.Core.List.{List}
use lib.ListN.{length, take, drop}
use borrow.Author.Tests.{leb-true, eqb-true}
use Rattle.resource.specs.Section.{bit_set, in_graphics, in_system, within, part, good, resolved}
use Rattle.resource.proofs.Parts.{inside}

-- the bytes from `off` on, as a slice of the section
slice : (s : List ℕ) (off n : ℕ) → within s off n ≡ true → (off + n ≤ length s) × (part s off n ≡ take (off + n - off) (drop off s))
slice s off n w =
    let l = leb-true (off + n) (length s) w in
    let e : off + n - off ≡ n = omega arith in
    (l, rw e (inside s off n l))

system_high : (va : ℕ) → in_system va ≡ true → 0x50000000 ≤ va
system_high va h =
    let (p, q) = (and-eq-true_iff (bit_set 28 va) (bit_set 30 va)).0 h in
    omega (arith, eqb-true (va / 2 ^ 28 % 2) 1 p, eqb-true (va / 2 ^ 30 % 2) 1 q)

module _ (system graphics : List ℕ) (va n : ℕ) (g : good system graphics va n ≡ true) where
  pub graphics_part : in_graphics va ≡ true
      → (va - 0x60000000 + n ≤ length graphics) × (resolved system graphics va n ≡ take (va - 0x60000000 + n - (va - 0x60000000)) (drop (va - 0x60000000) graphics))
  unfolding good resolved
  graphics_part e = let (a, b) = slice graphics (va - 0x60000000) n (simp e at g) in (a, simp e b)

  pub system_part : in_graphics va ≡ false
      → (0x50000000 ≤ va) × (va - 0x50000000 + n ≤ length system) × (resolved system graphics va n ≡ take (va - 0x50000000 + n - (va - 0x50000000)) (drop (va - 0x50000000) system))
  unfolding good resolved
  system_part e = by (in_system va) refl
    where
      by : (t : Bool) → in_system va ≡ t
          → (0x50000000 ≤ va) × (va - 0x50000000 + n ≤ length system) × (resolved system graphics va n ≡ take (va - 0x50000000 + n - (va - 0x50000000)) (drop (va - 0x50000000) system))
      by true f = let (a, b) = slice system (va - 0x50000000) n (simp (e, f) at g) in (system_high va f, a, simp (e, f) b)
      by false f = absurd (false≢true (simp (e, f) at g))
