-- `read_lists::list_table` meets its contract: the second resolved part, by the address and the count that the header's fields are.
use mathlib.Core.Path.{◌∙◌}
use Rattle.read_lists.specs.Lists.{table_of, header}
use Rattle.read_lists.proofs.list_table.Goals as goal

pub returns : goal.returns
unfolding table_of header
returns c = c.resolve.ensures.content ∙ rw (c.u64_le-address.ensures, c.u32_le-count.ensures, c.resolve-h.ensures.content)
