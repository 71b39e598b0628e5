-- `floats_at` meets its contract: `float_of_bits` gives each of the three floats from its word.
use Rattle.math.proofs.vec3.floats_at.Goals as goal

pub returns : goal.returns
returns c = rw (c.float_of_bits-x.ensures, c.float_of_bits-y.ensures, c.float_of_bits-z.ensures)
