-- `cellsum_line::put_named` meets its contract: the number's text is stored behind the name's.
use native.Mathlib.Omega.{arith}
use Rattle.decimal.proofs.Decimal.{length_u64}
use Rattle.decimal.proofs.Stored.{stored, stored_then}
use Rattle.cellsum_line.proofs.put_named.Goals as goal

pub overflow_add-result : goal.overflow_add-result
overflow_add-result c =
    let t = c.put_text.ensures.size in
    let d = c.put_decimal.ensures.size in
    omega (arith, length_u64 c.args.n c.ranges.n.fits, c.requires, t, d)

pub returns : goal.returns
returns c =
    let t = c.put_text.ensures in
    let d = c.put_decimal.ensures in
    record {
      stored = stored_then (stored t.size t.stored) (stored d.size d.stored);
      bound = omega (arith, length_u64 c.args.n c.ranges.n.fits, t.size, d.size);
    }
