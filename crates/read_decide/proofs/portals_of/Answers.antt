-- `portals_of` meets its contract: `u64_le` and `portal_count` give the address and the count in the header, and `resolve` the bytes that they name.
use mathlib.Core.Path.{◌∙◌}
use Rattle.read_decide.specs.Reading.{portals}
use Rattle.read_decide.proofs.portals_of.Goals as goal

pub returns : goal.returns
unfolding portals
returns c = c.resolve.ensures.content ∙ rw (c.u64_le-address.ensures, c.portal_count.ensures.count, c.requires)
