-- The cycle of calls {visit_sector, visit_subs}: the measure is 2 per visit left, and one more for the subs.
use Prim.Native.Nat.{◌+◌, ◌*◌}
use Rattle.read_sectors.proofs.Steps.{Turn}
use Rattle.read_sectors.proofs.+visit_sector_visit_subs.Given as goal

abbrev pub decreases-visit_sector : goal.decreases-visit_sector
decreases-visit_sector l = 2 * l.from.left

abbrev pub decreases-visit_subs : goal.decreases-visit_subs
decreases-visit_subs l = 2 * l.start.left + 1

abbrev pub invariant-visit_subs-loop-i : goal.invariant-visit_subs-loop-i
invariant-visit_subs-loop-i l = Turn l.reader.system.now l.reader.graphics.now l.sector l.fn.start l.at l.i
