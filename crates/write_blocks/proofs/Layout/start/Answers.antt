-- `write_blocks::Layout::start` meets its contract: the end so far is not above the block's end, so that both numbers fit.
use Rattle.std.proofs.Common.{arith}
use Rattle.write_blocks.proofs.Layouts.{place_ge}
use Rattle.write_blocks.proofs.Layout.start.Goals as goal

pub overflow_cast-self : goal.overflow_cast-self
overflow_cast-self c = omega (arith, place_ge c.args.self.at c.args.size)
