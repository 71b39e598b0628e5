-- `cellsum_line::put_refusal` meets its contract: the pieces are stored one after the other.
use native.Mathlib.Omega.{arith}
use Rattle.fields.specs.Bytes.{cat}
use Rattle.decimal.specs.Text.{ascii}
use Rattle.cellsum_line.specs.Line.{refused_text}
use Rattle.decimal.proofs.Stored.{nothing, stored, stored_then}
use Rattle.cellsum_line.proofs.put_refusal.Goals as goal

pub returns : goal.returns
unfolding cat refused_text ascii
returns c =
    let n = c.put_named-a.ensures in
    let p = c.put_named-b.ensures in
    let t = c.put_text.ensures in
    let first = rw c.from.ensures at n.stored in
    record {
      stored = stored_then first (stored_then p.stored (stored_then (stored t.size t.stored) nothing));
      bound = omega (arith, n.bound, p.bound, t.size);
    }
