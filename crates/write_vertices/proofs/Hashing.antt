-- The tree of a triple is one of the trees, and the product that picks it fits.
use Prim.Native.Nat.{ℕ, ◌*◌, ◌/◌, ◌≤◌, ◌<◌, ◌^◌}
use native.Mathlib.Omega.{arith}
use native.Mathlib.Nat.{mod-lt, mul_comm, mul-le-mul, mul-lt-mul_of_pos_right, div-lt_iff_lt-mul}
use Rattle.write_vertices.specs.Table.{hash_of}

-- the share of b that h is of 2^32
pub share_lt : (h b : ℕ) → h < 4294967296 → 0 < b → h * b / 4294967296 < b
share_lt h b q some = (div-lt_iff_lt-mul {k = 4294967296} {x = h * b} {y = b} (omega arith)).1 (rw (mul_comm b 4294967296) (mul-lt-mul_of_pos_right q some))

pub product_lt : (h b : ℕ) → h < 4294967296 → b ≤ 2 ^ 32 → h * b < 2 ^ 64
product_lt h b q narrow =
    let le : h * b ≤ 4294967295 * 4294967296 = mul-le-mul {n₁ = h} {m₁ = b} {n₂ = 4294967295} {m₂ = 4294967296} (omega arith) (omega arith) in
    omega arith

pub hash_lt : (b x : ℕ) → 0 < b → hash_of b x < b
unfolding hash_of
hash_lt b x some = share_lt _ b (mod-lt _ (omega arith)) some
