-- `units::leaf_short` meets its contract: `float_of_bits` gives the three floats, `quantise_axis` their short.
use Rattle.units.proofs.leaf_short.Goals as goal

pub returns : goal.returns
returns c = cc
