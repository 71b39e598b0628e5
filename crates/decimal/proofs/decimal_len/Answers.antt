-- `decimal::decimal_len` meets its contract: a number has a digit for each power of ten that it reaches, and one at least.
use mathlib.Core.Path.{◌≡◌, ap}
use Prim.Native.Nat.{ℕ, max, ◌+◌, ◌*◌, ◌^◌, ◌<◌, ◌≤◌}
use native.Mathlib.Nat.{pow-suc}
use native.Mathlib.Decide.{dec_lt}
use native.Mathlib.Omega.{arith}
use lib.ListN.{length}
use Rattle.decimal.specs.Text.{decimal}
use Rattle.decimal.proofs.Decimal.{length_above, length_below, length_one}
use Rattle.decimal.proofs.decimal_len.Goals as goal

by_power : (n k m : ℕ) → m ≡ max n 1 → 10 ^ k ≤ m → m < 10 * 10 ^ k → k + 1 ≡ length (decimal n)
by_power n k m e low high =
    let above : k < length (decimal m) = length_above k m low in
    elim (dec_lt n 10) [
      | yes h ↦ omega (arith, length_one n h, length_one m (omega arith))
      | no h ↦
          let same : m ≡ n = omega arith in
          omega (arith, ap (λ d. length (decimal d)) same, length_below k n (rw pow-suc (omega arith)))
    ]

pub returns : goal.returns
returns c = let h = c.ilog10.ensures in by_power c.args.n c.ilog10.result c.max.result c.max.ensures h.power_le h.next_power_gt
