-- `read_lists::cursor_at` meets its contract: its two fields are those of the part's entry in the table, 16 bytes to an entry.
use Rattle.read_lists.specs.Lists.{count_at, address_at}
use borrow.Author.Rules.{rules}
use Rattle.read_lists.proofs.cursor_at.Goals as goal

pub returns : goal.returns
unfolding count_at address_at
returns c = search rules
