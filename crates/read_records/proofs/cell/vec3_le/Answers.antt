-- `vec3_le` meets its contract. Each float is of the bits that stand there.
use Rattle.read_grammar.specs.Derives.{vec_of}
use Rattle.read_records.proofs.cell.vec3_le.Goals as goal

pub returns : goal.returns
unfolding vec_of
returns c = rw (c.float_of_bits.ensures, c.float_of_bits-2.ensures, c.float_of_bits-3.ensures, c.u32_le.ensures, c.u32_le-2.ensures, c.u32_le-3.ensures, c.from-at.ensures)
