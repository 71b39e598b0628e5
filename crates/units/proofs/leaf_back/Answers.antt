-- `units::leaf_back` meets its contract: `float_of_bits` gives lo and extent, `unquantise_axis` the float that the short turns back to, `bits_of_float` its bits.
use mathlib.Core.Path.{ap, ◌∙◌}
use lib.Ieee.{binary32, to_bits}
use Rattle.units.proofs.leaf_back.Goals as goal

pub returns : goal.returns
returns c =
    c.bits_of_float.ensures
    ∙ ap (to_bits binary32) (c.unquantise_axis.ensures ∙ rw (c.float_of_bits.ensures, c.float_of_bits-2.ensures))
