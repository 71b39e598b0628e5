-- `proved::p12_vehicle` meets its contract: `save_empty` gives the length in the writer's outcome, which `vehicle_length` computes for a cell whose box stays whole.
use mathlib.Core.Path.{refl, ◌∙◌}
use Rattle.proved.proofs.Saved.{vehicle_length}
use Rattle.proved.proofs.p12_vehicle.Goals as goal

pub returns : goal.returns
returns c = c.save_empty.ensures.length ∙ vehicle_length 4 10000 refl
