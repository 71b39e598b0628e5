-- `put_cell` meets its contract. The parts of the record are the record (proofs/Stores).
use mathlib.Core.Path.{◌∙◌}
use Rattle.read_records.proofs.Stores.{cell_stored}
use Rattle.read_records.proofs.cell.put_cell.Goals as goal

pub returns : goal.returns
returns c = c.put_vec-3.ensures ∙ rw (c.put_vec-2.ensures, c.put_vec.ensures, c.put_values.ensures) (cell_stored c.args.cell c.args.strip.now)
