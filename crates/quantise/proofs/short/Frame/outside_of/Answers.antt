-- `quantise::short::Frame::outside_of` meets its contract, axis by axis. Assumes nothing.
use native.Mathlib.Omega.{arith}
use Rattle.quantise.specs.Short.{outside_count}
use Rattle.quantise.proofs.Outside.{byte_one}
use Rattle.quantise.proofs.short.Frame.outside_of.Goals as goal

pub returns-clause-count : goal.returns-clause-count
unfolding outside_count
returns-clause-count c =
    rw (← c.is_outside-x.ensures, ← c.is_outside-y.ensures, ← c.is_outside-z.ensures)
    (omega (arith, c.from.ensures, c.from-2.ensures, c.from-3.ensures, byte_one c.is_outside-x.result, byte_one c.is_outside-y.result, byte_one c.is_outside-z.result))
