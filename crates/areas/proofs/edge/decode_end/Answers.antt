-- `areas::edge::decode_end` meets its contract: field by field, each a quotient cut to its bits, the lowest shifted by nothing.
use Rattle.std.proofs.Common.{arith}
use Rattle.areas.proofs.EdgeHalf.{end_by_fields}
use Rattle.areas.proofs.edge.decode_end.Goals as goal

pub returns : goal.returns
returns c = end_by_fields _ (omega arith) (omega arith) (omega arith) (omega arith)
