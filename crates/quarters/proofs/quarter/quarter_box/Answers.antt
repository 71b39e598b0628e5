-- `quarters::quarter::quarter_box` meets its contract, side by side. Assumes nothing.
use Rattle.std.proofs.Common.{true, false}
use Rattle.quarters.proofs.Quarters.{side_read}
use Rattle.quarters.proofs.quarter.quarter_box.Goals as goal

pub returns : goal.returns
returns c =
    rw (
      side_read false _ _ c.quarter_floor.ensures,
      side_read true _ _ c.quarter_ceil.ensures,
      side_read false _ _ c.quarter_floor-2.ensures,
      side_read true _ _ c.quarter_ceil-2.ensures,
      side_read false _ _ c.quarter_floor-3.ensures,
      side_read true _ _ c.quarter_ceil-3.ensures,
    )
