-- `proved::p12_total` meets its contract: `save_empty` gives the pages of the writer's outcome, `u32_le` the word in their header, which `vehicle_total` computes.
use mathlib.Core.Path.{◌∙◌}
use Rattle.proved.proofs.Saved.{vehicle_total}
use Rattle.proved.proofs.p12_total.Goals as goal

pub returns : goal.returns
returns c = c.u32_le.ensures ∙ rw c.save_empty.ensures.pages (vehicle_total _)
