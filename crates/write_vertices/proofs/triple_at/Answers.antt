-- `write_vertices::triple_at` meets its contract: words past the end are 0 in the definition too.
use Prim.Native.Nat.{◌+◌}
use native.Mathlib.Omega.{arith}
use lib.ListN.{get_or-eq_default}
use Rattle.write_vertices.specs.Table.{triple_at}
use Rattle.write_vertices.proofs.triple_at.Goals as goal

pub returns-then-table-at : goal.returns-then-table-at
unfolding triple_at
returns-then-table-at c =
    let a = c.args in record {
      triple = rw (get_or-eq_default a.table.now 0 {n = a.at} (omega arith), get_or-eq_default a.table.now 0 {n = a.at + 1} (omega arith));
      bound = omega arith;
    }

pub returns-then-table-at-lt2 : goal.returns-then-table-at-lt2
unfolding triple_at
returns-then-table-at-lt2 c =
    let a = c.args in record {
      triple = rw (get_or-eq_default a.table.now 0 {n = a.at + 1} (omega arith)) (omega arith);
      bound = omega (arith, c.type_inv.table a.at);
    }
