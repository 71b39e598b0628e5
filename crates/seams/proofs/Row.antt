-- The halves of edges in one row, as they stand in a strip from a place on: two to an edge, three words each. Counted by number they make the edges' count.
use Prim.Native.Nat.{ℕ, zero, suc, ◌+◌, ◌-◌, ◌*◌, ◌≤◌, ◌<◌}
use mathlib.Core.Path.{◌≡◌, refl}
use mathlib.Core.Bool.{Bool}
use mathlib.Core.List.{List}
use native.Mathlib.Omega.{arith}
use Rattle.strip.specs.Cell.{NavEdgeEnd}
use Rattle.strip.specs.Reading.{half_at, edges_at, items_at}
use Rattle.strip.specs.Tests.{one_if}
use Rattle.seams.specs.Seams.{edge_count}

-- whether a half is counted depends on where it stands
pub half_at_lem : (test : NavEdgeEnd → Bool) (s : List ℕ) (at : ℕ) {place r : ℕ} → r ≡ one_if (test (half_at s place)) → place ≡ at → r ≡ one_if (test (half_at s at))
half_at_lem test s at e f = rw f at e

module _ (test : NavEdgeEnd → Bool) (s : List ℕ) (at : ℕ) where
  -- the test of half number i, and how many of the n halves from there on pass it
  abbrev pub half_test : ℕ → ℕ
  half_test i = one_if (test (half_at s (at + 3 * i)))

  unfoldable pub row_count : ℕ → ℕ → ℕ
  row_count i zero = 0
  row_count i (suc n) = half_test i + row_count (i + 1) n

  -- an edge is two halves
  from_edge : (k n : ℕ) → edge_count test (edges_at s (at + 6 * k) n) ≡ row_count (2 * k) (2 * n)
  unfolding edge_count items_at row_count
  from_edge k zero = refl
  from_edge k (suc n) =
      let two : 2 * suc n ≡ suc (suc (2 * n)) = omega arith in
      let a : at + 3 * (2 * k) ≡ at + 6 * k = omega arith in
      let b : at + 3 * (2 * k + 1) ≡ at + 6 * k + 3 = omega arith in
      let next : at + 6 * k + 6 ≡ at + 6 * (k + 1) = omega arith in
      let number : 2 * k + 1 + 1 ≡ 2 * (k + 1) = omega arith in
      rw (two, a, b, next, number) (omega (arith, from_edge (k + 1) n))

  pub by_halves : (n : ℕ) → edge_count test (edges_at s at n) ≡ row_count 0 (2 * n)
  by_halves n =
      let here : at + 6 * 0 ≡ at = omega arith in
      let first : 2 * 0 ≡ 0 = omega arith in
      rw (here, first) at (from_edge 0 n)

  -- the halves from number i on, of n: that one and the rest, or none
  pub row_turn : (i n : ℕ) → i < n → row_count i (n - i) ≡ half_test i + row_count (i + 1) (n - (i + 1))
  unfolding row_count
  row_turn i n h = let turn : n - i ≡ suc (n - (i + 1)) = omega arith in rw turn

  pub row_done : (i n : ℕ) → n ≤ i → row_count i (n - i) ≡ 0
  unfolding row_count
  row_done i n h = let none : n - i ≡ 0 = omega arith in rw none
