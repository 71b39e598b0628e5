-- `fields::pair` meets its contract, by the law of two shorts in a word.
use borrow.Author.Rules.{rules}
use Rattle.fields.proofs.Bytes.{le_pair}
use Rattle.fields.proofs.pair.Goals as goal

pub returns : goal.returns
returns c = rw (c.from.ensures, c.from-2.ensures) (le_pair c.args.lo c.args.hi (search rules))
