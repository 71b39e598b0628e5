-- `record_of` meets its contract: field by field, floats from their bits.
use Rattle.read_grammar.specs.Derives.{head_of}
use Rattle.cell_record.specs.Record.{record_of}
use Rattle.read_records.proofs.cell.record_of.Goals as goal

pub returns : goal.returns
unfolding record_of head_of
returns c = rw (c.vec3_le-bb_min.ensures, c.vec3_le-bb_max.ensures, c.vec3_le-bb_size.ensures, c.u32_le.ensures, c.u32_le-2.ensures, c.u32_le-3.ensures, c.u32_le-4.ensures)
