-- `quarters::bounds::quarter_bounds` meets its contract, by `quarter_bounds_lem` of `proofs/Sweep.antt`. Assumes nothing.
use Rattle.std.proofs.Common.{◌∙◌}
use Rattle.quarters.proofs.Sweep.{quarter_bounds_lem}
use Rattle.quarters.proofs.bounds.quarter_bounds.Goals as goal

pub returns : goal.returns
returns c = c.quarter_box.ensures ∙ quarter_bounds_lem _ _ _ c.bounds-b.result c.bounds-b.ensures
