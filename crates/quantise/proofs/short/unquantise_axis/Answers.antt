-- `quantise::short::unquantise_axis` meets its contract: 65535.0 by its bit pattern is the definition's. Assumes nothing.
use mathlib.Core.Path.{refl}
use lib.Ieee.{of_bits}
use Rattle.quantise.specs.Short.{coordinate}
use Rattle.quantise.proofs.short.unquantise_axis.Goals as goal

pub returns : goal.returns
unfolding coordinate of_bits
returns c = refl
