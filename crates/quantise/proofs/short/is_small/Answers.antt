-- `quantise::short::is_small` meets its contract: std's `abs` is the magnitude. Assumes nothing.
use lib.Ieee.{of_bits}
use Rattle.quantise.proofs.Extent.{abs_magnitude}
use Rattle.quantise.proofs.short.is_small.Goals as goal

pub returns : goal.returns
unfolding of_bits
returns c = rw (c.abs.ensures.value, abs_magnitude c.args.extent)
