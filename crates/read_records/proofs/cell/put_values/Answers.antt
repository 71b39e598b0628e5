-- `put_values` meets its contract. The first word is the kind.
use Rattle.fields.specs.Rows.{pack}
use Rattle.read_records.specs.Words.{value_words}
use Rattle.read_records.proofs.cell.put_values.Goals as goal

pub returns : goal.returns
unfolding value_words pack
returns c = c.put_words.ensures
