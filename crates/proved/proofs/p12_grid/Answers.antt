-- `proved::p12_grid` meets its contract: `save_empty` gives the length in the writer's outcome, which `grid_length` computes for a cell whose box splits.
use mathlib.Core.Path.{refl, ◌∙◌}
use Rattle.proved.proofs.Saved.{grid_length}
use Rattle.proved.proofs.p12_grid.Goals as goal

pub returns : goal.returns
returns c = c.save_empty.ensures.length ∙ grid_length 1 4040 refl
