-- `pick_contains::short_at` meets its contract: the short of the float whose bits stand there.
use Rattle.pick_contains.proofs.short_at.Goals as goal

pub returns : goal.returns
returns c = rw (c.short_on.ensures, c.float_of_bits.ensures)
