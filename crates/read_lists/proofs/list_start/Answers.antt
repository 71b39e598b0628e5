-- `read_lists::list_start` meets its contract: before part 0 no item stands, which is what `cursor_at` asks of the number that it is given.
use mathlib.Core.Path.{refl}
use Rattle.read_lists.specs.Lists.{before}
use borrow.Author.Rules.{rules}
use Rattle.read_lists.proofs.list_start.Goals as goal

pub cursor_at-requires : goal.cursor_at-requires
unfolding before
cursor_at-requires c = (search rules, refl)
