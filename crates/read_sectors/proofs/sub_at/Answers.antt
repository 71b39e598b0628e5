-- `read_sectors::sub_at` meets its contract: the address is read at the place that is promised, however its sum is written.
use Prim.Native.Nat.{ℕ, ◌+◌, ◌*◌}
use mathlib.Core.Path.{◌≡◌}
use mathlib.Core.List.{List}
use native.Mathlib.Omega.{arith}
use Rattle.fields.specs.Bytes.{le_at}
use Rattle.read_sectors.proofs.sub_at.Goals as goal

read_at : (b : List ℕ) (at to : ℕ) {r : ℕ} → r ≡ le_at 8 b at → at ≡ to → r ≡ le_at 8 b to
read_at b at to h e = rw (← e) h

pub returns : goal.returns
returns c =
    let a = c.args in
    read_at a.sector.now _ (0x34 + 8 * a.i) c.u64_le.ensures (omega arith)
