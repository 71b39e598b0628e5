-- `cellsum_line::put_cell` meets its contract: the pieces are stored one after the other.
use native.Mathlib.Omega.{arith}
use Rattle.fields.specs.Bytes.{cat}
use Rattle.decimal.specs.Text.{ascii}
use Rattle.cellsum_line.specs.Line.{accepted_text}
use Rattle.decimal.proofs.Stored.{nothing, stored, stored_then}
use Rattle.cellsum_line.proofs.put_cell.Goals as goal

pub returns : goal.returns
unfolding cat accepted_text ascii
returns c =
    let n = c.put_named-a.ensures in
    let d = c.put_counts-b.ensures in
    let t = c.put_text.ensures in
    let first = rw c.from.ensures at n.stored in
    record {
      stored = stored_then first (stored_then d.stored (stored_then (stored t.size t.stored) nothing));
      bound = omega (arith, n.bound, d.bound, t.size);
    }
