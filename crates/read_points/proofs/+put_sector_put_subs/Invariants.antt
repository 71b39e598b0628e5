-- The cycle of calls {put_sector, put_subs}: the measure is that of the first pass (`read_sectors`), 2 per visit left, and one more for the subs.
use Prim.Native.Nat.{◌+◌, ◌*◌}
use Rattle.read_points.proofs.Puts.{Rest}
use Rattle.read_points.proofs.+put_sector_put_subs.Given as goal

abbrev pub decreases-put_sector : goal.decreases-put_sector
decreases-put_sector l = 2 * l.from.left

abbrev pub decreases-put_subs : goal.decreases-put_subs
decreases-put_subs l = 2 * l.start.left + 1

abbrev pub invariant-put_subs-loop-i : goal.invariant-put_subs-loop-i
invariant-put_subs-loop-i l = Rest l.reader.system.now l.reader.graphics.now l.sector l.fn.start.left l.fn.start.at l.fn.strip l.cursor.left l.cursor.at l.strip l.i
