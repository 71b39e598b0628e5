-- `stores::put_le` meets its contract. The loop's invariant: storing what is left of the number from here on gives what is promised.
use mathlib.Core.Path.{◌≡◌, sym, ◌∙◌}
use Prim.Native.Nat.{◌+◌, ◌-◌, ◌<◌}
use native.Mathlib.Omega.{arith}
use native.Mathlib.Decide.{dec_le}
use lib.ListN.{length, length-set}
use Rattle.fields.specs.Bytes.{le_bytes}
use Rattle.fields.proofs.Puts.{past_end, put_nil, put_lowest}
use Rattle.stores.proofs.put_le.Goals as goal

pub loop-at-preserved : goal.loop-at-preserved
loop-at-preserved c =
    let l = c.loop-at in
    let a = c.args in
    let left : a.off + a.n - (l.at + 1) ≡ a.off + a.n - l.at - 1 = omega arith in
    let some : l.at < a.off + a.n = omega (arith, c.saturating_add.ensures, c.min-end.ensures) in
    (rw length-set l.invariant.0, rw left (put_lowest l.at (a.off + a.n - l.at) l.rest l.b (omega arith) ∙ l.invariant.1))

pub returns : goal.returns
unfolding le_bytes
returns c =
    let l = c.loop-at in
    let a = c.args in
    elim (dec_le (length l.b) l.at) [
      | yes h ↦ sym (past_end l.at (le_bytes (a.off + a.n - l.at) l.rest) l.b h) ∙ l.invariant.1
      | no h ↦
          let none : a.off + a.n - l.at ≡ 0 = omega (arith, c.saturating_add.ensures, c.min-end.ensures, l.invariant.0) in
          rw (none, le_bytes, put_nil) at l.invariant.1
    ]
