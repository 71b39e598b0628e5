-- `write_quadtree::boxes::middle_of` meets its contract: the operations are IEEE's. Assumes nothing.
use mathlib.Core.Path.{refl}
use lib.Ieee.{mul, add, of_bits}
use Rattle.write_pages.specs.Sectors.{middle}
use Rattle.write_quadtree.proofs.boxes.middle_of.Goals as goal

pub returns : goal.returns
unfolding middle mul add of_bits
returns c = refl
