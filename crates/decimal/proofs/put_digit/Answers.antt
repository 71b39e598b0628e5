-- `decimal::put_digit` meets its contract: past the end it stores nothing.
use mathlib.Core.Path.{sym}
use mathlib.Core.List.{[], ◌∷◌}
use Prim.Native.Nat.{◌+◌}
use native.Mathlib.Omega.{arith}
use Rattle.fields.proofs.Puts.{past_end, put_one}
use Rattle.decimal.specs.Text.{digit}
use Rattle.decimal.proofs.put_digit.Goals as goal
use Rattle.decimal.proofs.put_digit.Goals.{else-at-out-via-then-at-out+else-i-out, else-at-out-via-else-at-out}

pub returns-then-i-out : goal.returns-then-i-out
returns-then-i-out c = let a = c.args in sym (put_one (a.at + a.i) (digit a.d) a.out.now)

pub returns-else-at-out : goal.returns-else-at-out
returns-else-at-out c =
    let a = c.args in
    sym (past_end (a.at + a.i) (digit a.d ∷ []) a.out.now (elim c.else-at-out.branch [ else-at-out-via-then-at-out+else-i-out w ↦ omega arith | else-at-out-via-else-at-out w ↦ omega arith ]))
