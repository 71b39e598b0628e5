-- How many leaves a cell's tree has. Assumes nothing.
use Prim.Native.Nat.{ℕ, zero, suc, ◌*◌, ◌%◌, ◌^◌, ◌≤◌}
use mathlib.Core.Path.{◌≡◌, refl}
use native.Mathlib.Omega.{arith}
use lib.Dec.{lit≤}

-- how many leaves there are
pub leaves_wide : (d : ℕ) → d ≤ 2 → (1 * 2 ^ (2 * d) % 2 ^ 32 ≡ 4 ^ d) × (1 * 2 ^ (2 * d) % 2 ^ 32 ≤ 16)
leaves_wide zero h = (refl, lit≤ tt)
leaves_wide (suc zero) h = (refl, lit≤ tt)
leaves_wide (suc (suc zero)) h = (refl, lit≤ tt)
leaves_wide (suc (suc (suc n))) h = absurd (omega arith)
