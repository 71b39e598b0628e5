-- `obj_digits::put_two` meets its contract: one digit, or a pair.
use mathlib.Core.Path.{ap}
use native.Mathlib.Omega.{arith}
use lib.ListN.{length}
use Rattle.decimal.proofs.Decimal.{one_digit, length_one}
use Rattle.decimal.proofs.Stored.{byte}
use Rattle.obj_digits.proofs.Pairs.{two_digits}
use Rattle.obj_digits.proofs.put_two.Goals as goal

pub bounds-text-at : goal.bounds-text-at
bounds-text-at c = omega (arith, length_one c.args.n c.if-n-lt10.true)

pub returns-then-n-lt10 : goal.returns-then-n-lt10
returns-then-n-lt10 c =
    let n = c.args.n in
    rw (c.digit.ensures, one_digit n c.if-n-lt10.true) byte

pub put_pair-requires : goal.put_pair-requires
put_pair-requires c =
    let n = c.args.n in
    (omega arith, omega (arith, ap length (two_digits n (omega arith) (omega arith))))

pub returns : goal.returns
returns c = rw (two_digits c.args.n (omega arith) (omega arith)) c.put_pair.ensures
