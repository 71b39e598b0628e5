-- `write_replay::word_is` meets its contract: the word is the one that `u32_le` reads.
use mathlib.Core.Path.{ap}
use lib.Dec.{eqb}
use Rattle.write_replay.proofs.word_is.Goals as goal

pub returns : goal.returns
returns c = ap (eqb c.args.n) c.u32_le.ensures
