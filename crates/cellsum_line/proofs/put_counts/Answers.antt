-- `cellsum_line::put_counts` meets its contract: the four are stored one after the other.
use native.Mathlib.Omega.{arith}
use Rattle.fields.specs.Bytes.{cat}
use Rattle.decimal.specs.Text.{ascii}
use Rattle.cellsum_line.specs.Line.{counts_text}
use Rattle.decimal.proofs.Stored.{nothing, stored_then}
use Rattle.cellsum_line.proofs.put_counts.Goals as goal

pub returns : goal.returns
unfolding cat counts_text ascii
returns c =
    let polys = c.put_named-a.ensures in
    let portals = c.put_named-b.ensures in
    let points = c.put_named-c.ensures in
    let sectors = c.put_named.ensures in
    record {
      stored = stored_then polys.stored (stored_then portals.stored (stored_then points.stored (stored_then sectors.stored nothing)));
      bound = omega (arith, polys.bound, portals.bound, points.bound, sectors.bound);
    }
