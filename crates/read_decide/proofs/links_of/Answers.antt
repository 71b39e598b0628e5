-- `links_of` meets its contract: `u64_le` and `u32_le` give the address and the count in the header, and `resolve` the bytes that they name.
use mathlib.Core.Path.{◌∙◌}
use Rattle.read_decide.specs.Deciding.{link_bytes}
use Rattle.read_decide.proofs.links_of.Goals as goal

pub returns : goal.returns
unfolding link_bytes
returns c = c.resolve.ensures.content ∙ rw (c.u64_le-address.ensures, c.u32_le-count.ensures, c.requires)
