-- `write_vertices::whole_triple_at` meets its contract: the sum is the definition's, and each part keeps to its bits.
use native.Mathlib.Omega.{arith}
use Rattle.write_vertices.specs.Table.{triple_at}
use Rattle.write_vertices.proofs.whole_triple_at.Goals as goal

pub overflow_add-result : goal.overflow_add-result
overflow_add-result c = omega (arith, c.type_inv.table c.args.at, c.from.ensures, c.from-2.ensures)

pub returns : goal.returns
unfolding triple_at
returns c =
    record {
      triple = rw (c.from.ensures, c.from-2.ensures);
      bound = omega (arith, c.type_inv.table c.args.at, c.from.ensures, c.from-2.ensures);
    }
