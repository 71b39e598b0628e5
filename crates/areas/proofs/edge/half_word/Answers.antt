-- `areas::edge::half_word` meets its contract: the fields side by side fill a word.
use Rattle.std.proofs.Common.{arith}
use Rattle.fields.specs.Rows.{pack}
use Rattle.areas.specs.EdgeHalf.{half_word}
use Rattle.areas.proofs.edge.half_word.Goals as goal

pub returns : goal.returns
unfolding half_word pack
returns c = omega arith
