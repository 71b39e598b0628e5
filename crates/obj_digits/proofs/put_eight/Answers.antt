-- `obj_digits::put_eight` meets its contract: the digits of the ten-thousandth, and two pairs behind them.
use native.Mathlib.Omega.{arith}
use Rattle.decimal.proofs.Stored.{stored_then, kept}
use Rattle.obj_digits.proofs.Pairs.{by_ten_thousands, length_ten_thousands}
use Rattle.obj_digits.proofs.put_eight.Goals as goal

pub put_four-high-requires : goal.put_four-high-requires
put_four-high-requires c =
    let n = c.args.n in
    (omega arith, omega (arith, length_ten_thousands n (omega arith)))

pub put_pair-low-requires : goal.put_pair-low-requires
put_pair-low-requires c =
    let n = c.args.n in
    let s = c.put_four-high.ensures in
    (omega arith, omega (arith, length_ten_thousands n (omega arith), kept s, s.place))

pub put_pair-requires : goal.put_pair-requires
put_pair-requires c =
    let n = c.args.n in
    let s = c.put_four-high.ensures in
    let t = c.put_pair-low.ensures in
    (omega arith, omega (arith, length_ten_thousands n (omega arith), kept s, s.place, kept t, t.place))

pub returns : goal.returns
returns c =
    let n = c.args.n in
    rw (by_ten_thousands n (omega arith)) (stored_then c.put_four-high.ensures (stored_then c.put_pair-low.ensures c.put_pair.ensures))
