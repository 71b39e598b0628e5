-- `picking::axes` meets its contract, by what the axes are: so an axis that takes its extent from elsewhere is refused here.
use mathlib.Core.Path.{refl}
use Rattle.picking.proofs.axes.Goals as goal

pub returns-clause-x : goal.returns-clause-x
returns-clause-x c = refl
