-- `cell_record::record_at` meets its contract: field by field, floats from their bits.
use Rattle.strip.specs.Reading.{head_at}
use Rattle.cell_record.specs.Record.{record_of}
use Rattle.cell_record.proofs.record_at.Goals as goal

pub returns : goal.returns
unfolding record_of head_at
returns c = rw (c.floats_at.ensures, c.floats_at-2.ensures, c.floats_at-3.ensures)
