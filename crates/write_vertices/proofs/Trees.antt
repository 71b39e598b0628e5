-- How many trees a table has: some, no more than triples, and one for each vertex.
use Prim.Native.Nat.{ℕ, ◌+◌, ◌≤◌, ◌<◌, min}
use native.Mathlib.Omega.{arith}
use native.Mathlib.Nat.{min-le_left, min-le_right, le-min}
use mathlib.Core.Path.{◌≡◌}

-- some trees, and no more than triples
pub trees_fit : (m b : ℕ) → 0 < m → b ≡ min m 65536 → (0 < b) × (b ≤ 65536) × (b ≤ m)
trees_fit m b h e =
    let some : 1 ≤ min m 65536 = le-min h (omega arith) in
    (omega arith, omega (arith, min-le_right m 65536), omega (arith, min-le_left m 65536))

-- there is a tree for each vertex
pub tree_left : (m b n : ℕ) → min m 65536 ≤ b → n < m → n < 65536 → n < b
tree_left m b n h l few = let le : n + 1 ≤ min m 65536 = le-min (omega arith) (omega arith) in omega arith
