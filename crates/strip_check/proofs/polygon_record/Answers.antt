-- `strip_check::polygon_record` meets its contract: where a polygon's words are all there, so are those that are looked at.
use Rattle.std.proofs.Common.{arith}
use Rattle.strip.proofs.Steps.{parts}
use Rattle.strip_check.proofs.polygon_record.Goals as goal

pub poly_fits-requires : goal.poly_fits-requires
poly_fits-requires c = let p = parts _ _ _ c.poly_at-p.ensures in grind arith
