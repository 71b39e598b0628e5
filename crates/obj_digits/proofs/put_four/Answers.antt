-- `obj_digits::put_four` meets its contract: the digits of the hundredth, and a pair behind them.
use native.Mathlib.Omega.{arith}
use Rattle.decimal.proofs.Stored.{stored_then, kept}
use Rattle.obj_digits.proofs.Pairs.{by_hundreds, length_hundreds}
use Rattle.obj_digits.proofs.put_four.Goals as goal

pub put_two-to-requires : goal.put_two-to-requires
put_two-to-requires c =
    let n = c.args.n in
    (omega arith, omega (arith, length_hundreds n (omega arith)))

pub put_pair-requires : goal.put_pair-requires
put_pair-requires c =
    let n = c.args.n in
    let s = c.put_two-to.ensures in
    (omega arith, omega (arith, length_hundreds n (omega arith), kept s, s.place))

pub returns : goal.returns
returns c =
    let n = c.args.n in
    rw (by_hundreds n (omega arith)) (stored_then c.put_two-to.ensures c.put_pair.ensures)
