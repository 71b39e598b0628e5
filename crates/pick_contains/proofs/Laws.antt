-- Laws of the proofs: products and tests of numbers, what is left of a polygon's sides, and its last vertex. Assumes nothing.
use Prim.Native.Nat.{ℕ, zero, suc, ◌+◌, ◌*◌, ◌-◌, ◌%◌, ◌^◌, ◌≤◌, ◌<◌}
use mathlib.Core.Path.{◌≡◌, refl, ap, sym, ◌∙◌}
use mathlib.Core.Bool.{Bool, true, false}
use Rattle.std.specs.Int.{from_bool}
use mathlib.Core.List.{List, map}
use native.Mathlib.Omega.{arith}
use native.Mathlib.Nat.{mul-le-mul}
use lib.Dec.{eqb, ltb}
use Rattle.quantise.proofs.Ops.{ltb_same}
use Rattle.strip.specs.Cell.{Vec3}
use Rattle.strip.specs.Reading.{vec_at, items_at, vecs_at}
use Rattle.strip.proofs.Steps.{items_turn, items_done}
use Rattle.pick_contains.specs.declared.Spot.{Spot}
use Rattle.strip.specs.Tests.{one_if}
use Rattle.pick_contains.specs.Inside.{crossed, crossings, last_of, inside}

pub short_product : (a b : ℕ) → a < 2 ^ 16 → b < 2 ^ 16 → a * b < 2 ^ 32
short_product a b h k = omega (arith, mul-le-mul {n₁ = a} {m₁ = b} {n₂ = 65535} {m₂ = 65535} (omega arith) (omega arith))

-- a test and another one, whose sides differ by as much
pub same_test : (a b c d : ℕ) → a + d ≡ c + b → ltb a b ≡ ltb c d
same_test a b c d e = ltb_same a b c d (λ h. omega arith) (λ h. omega arith)

-- what holds of one place holds of the same place said otherwise
pub same_place : {A : Type 0} (f : ℕ → A) {k : ℕ} (m : ℕ) {a : A} → a ≡ f k → k ≡ m → a ≡ f m
same_place f m e p = e ∙ ap f p

-- a test as a number, by std's word and by the definitions'
one_byte : (b : Bool) → from_bool b ≡ one_if b
one_byte true = refl
one_byte false = refl

pub one_most : (b : Bool) → from_bool b ≤ 1
one_most true = omega arith
one_most false = omega arith

-- a polygon's vertices as spots
module _ (spot : Vec3 → Spot) (ws : List ℕ) (s : Spot) where
  -- a turn of the loop over sides, and its end
  module _ (last : Spot) (place i n : ℕ) where
    pub crossings_turn : i < n → (next : Spot) → next ≡ spot (vec_at ws place) → (b : Bool) → b ≡ crossed s last next → (further : ℕ) → further ≡ place + 3
        → crossings s last (map spot (vecs_at ws place (n - i))) ≡ from_bool b + crossings s next (map spot (vecs_at ws further (n - (i + 1))))
    unfolding crossings
    crossings_turn h next e b m further f = rw (items_turn (vec_at ws) (λ x. x + 3) place i n h, m, f, one_byte (crossed s last next), e)

    pub crossings_done : n ≤ i → crossings s last (map spot (vecs_at ws place (n - i))) ≡ 0
    unfolding crossings
    crossings_done k = rw (items_done (vec_at ws) (λ x. x + 3) place i n k)

  -- the last of vertices that stand one after the other
  last_vertex : (m at : ℕ) (d : Spot) → last_of d (map spot (vecs_at ws at (suc m))) ≡ spot (vec_at ws (at + 3 * m))
  unfolding last_of items_at
  last_vertex zero at d = ap (λ (x : ℕ). spot (vec_at ws x)) (omega arith)
  last_vertex (suc m) at d = last_vertex m (at + 3) (spot (vec_at ws at)) ∙ ap (λ (x : ℕ). spot (vec_at ws x)) (omega arith)

  -- no vertices, or some, of which the last is where the sides begin
  pub no_vertices : (at n : ℕ) → n ≡ 0 → inside s (map spot (vecs_at ws at n)) ≡ false
  unfolding inside crossings items_at
  no_vertices at n e = rw e

  pub some_vertices : (at n : ℕ) → 0 < n → (last : Spot) → last ≡ spot (vec_at ws (at + 3 * (n - 1))) → (k : ℕ) → k ≡ crossings s last (map spot (vecs_at ws at n))
      → inside s (map spot (vecs_at ws at n)) ≡ eqb (k % 2) 1
  unfolding inside
  some_vertices at n h last e k c =
      let up : n ≡ suc (n - 1) = omega arith in
      let l : last_of s (map spot (vecs_at ws at n)) ≡ last = ap (λ (x : ℕ). last_of s (map spot (vecs_at ws at x))) up ∙ last_vertex (n - 1) at s ∙ sym e in
      rw (l, c)
