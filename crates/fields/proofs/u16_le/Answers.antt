-- `fields::u16_le` meets its contract: std's number of the bytes that were found.
use mathlib.Core.Path.{◌∙◌}
use Rattle.fields.proofs.Bytes.{low_first}
use Rattle.fields.proofs.u16_le.Goals as goal

pub returns : goal.returns
returns c = c.from_le_bytes.ensures ∙ low_first 1 c.bytes_at.result ∙ c.bytes_at.ensures
