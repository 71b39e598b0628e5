-- `root_of` meets its contract: `u64_le` gives the address in the header, and `resolve` the bytes that it names.
use mathlib.Core.Path.{◌∙◌}
use Rattle.read_decide.specs.Reading.{root}
use Rattle.read_decide.proofs.root_of.Goals as goal

pub returns : goal.returns
unfolding root
returns c = c.resolve.ensures.content ∙ rw (c.u64_le.ensures, c.requires)
