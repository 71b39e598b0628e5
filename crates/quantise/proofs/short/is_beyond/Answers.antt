-- `quantise::short::is_beyond` meets its contract: what isn't in the range 0.0..=1.0 is beyond. Assumes nothing.
use lib.Ieee.{of_bits}
use Rattle.quantise.proofs.Outside.{range_beyond}
use Rattle.quantise.proofs.short.is_beyond.Goals as goal

pub returns : goal.returns
unfolding of_bits
returns c =
    let start = c.new.ensures.start in
    let end = c.new.ensures.end in
    let exhausted = c.new.ensures.exhausted in
    rw (c.contains.ensures.value, start, end, exhausted) (range_beyond c.args.t)
