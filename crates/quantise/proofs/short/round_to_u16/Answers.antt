-- `quantise::short::round_to_u16` meets its contract: each arm is a law of `proofs/Fixed.antt`. Its numbers stand as bit patterns in the code. Assumes nothing.
use mathlib.Core.Path.{◌∙◌}
use native.Mathlib.Omega.{arith}
use lib.Ieee.{binary64, fits, of_bits}
use lib.Ieee.Fits.{and_i, fits_widens}
use Rattle.quantise.proofs.Fixed.{Fixed, fixed, read, rounds_inside, rounds_above, rounds_below}
use Rattle.quantise.proofs.Numbers.{value_number}
use Rattle.quantise.proofs.short.round_to_u16.Goals as goal
use Rattle.quantise.proofs.short.round_to_u16.Goals.{After-row_known-1}

inside : (c : After-row_known-1) → Fixed c.args.p (read c.args.p)
unfolding of_bits
inside c = fixed c.args.p c.row_known-1.given c.if-p.true c.if-p-2.true

pub float_to_float-fixed : goal.float_to_float-fixed
float_to_float-fixed c =
    let p = c.args.p in
    and_i (fits binary64 p) _ (fits_widens p c.row_known-1.given) (value_number p _ _ _ (inside c).value)

pub float_to_bits-fixed : goal.float_to_bits-fixed
unfolding of_bits
float_to_bits-fixed c = value_number _ _ _ _ (inside c).raised

pub nearest_whole-requires : goal.nearest_whole-requires
unfolding of_bits
nearest_whole-requires c = (inside c).below

pub overflow_cast-result : goal.overflow_cast-result
unfolding of_bits
overflow_cast-result c = omega (arith, (inside (goal.at.overflow_cast-result c).After-row_known-1).below, c.nearest_whole.ensures)

pub returns-then-p-2 : goal.returns-then-p-2
unfolding of_bits
returns-then-p-2 c = c.nearest_whole.ensures ∙ rounds_inside c.args.p c.row_known-1.given c.if-p.true c.if-p-2.true

pub returns-then-p : goal.returns-then-p
unfolding of_bits
returns-then-p c = rounds_above c.args.p c.if-p.true c.if-p-2.false

pub returns : goal.returns
unfolding of_bits
returns c = rounds_below c.args.p c.if-p.false
