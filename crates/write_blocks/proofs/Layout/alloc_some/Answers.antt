-- `write_blocks::Layout::alloc_some` meets its contract: a size of 0 gets no block, and any other is the one size.
use Rattle.std.proofs.Common.{◌∙◌, arith}
use Rattle.write_blocks.proofs.Optional.{size_some, some_below}
use Rattle.write_blocks.proofs.Layout.alloc_some.Goals as goal

pub alloc-requires : goal.alloc-requires
alloc-requires c = some_below c.args.self.at c.args.size (omega (arith, c.if-size-eq0.false)) c.requires.below

pub returns : goal.returns
returns c = c.alloc.ensures ∙ rw (size_some c.args.size (omega (arith, c.if-size-eq0.false)))
