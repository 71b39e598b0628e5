-- `obj_length::digits_of` meets its contract: the powers of ten that a short reaches are its further digits.
use native.Mathlib.Omega.{arith}
use Rattle.obj_length.proofs.Digits.{short_counted}
use Rattle.obj_length.proofs.digits_of.Goals as goal

pub returns : goal.returns
returns c = omega (arith, short_counted c.args.n (omega arith), c.from.ensures, c.from-2.ensures, c.from-3.ensures, c.from-4.ensures)
