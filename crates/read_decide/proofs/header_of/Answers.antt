-- `header_of` meets its contract: `resolve` gives the bytes at the place and of the size that the definition names.
use Rattle.read_decide.specs.Reading.{header}
use borrow.Author.Rules.{rules}
use Rattle.read_decide.proofs.header_of.Goals as goal

pub returns : goal.returns
unfolding header
returns c = search rules
