-- `picking::spot_for_position` meets its contract: the two shorts by the axes of the cell that the checks found.
use mathlib.Core.List.{[]}
use mathlib.Core.Path.{refl}
use Rattle.strip.specs.Reading.{head_at}
use Rattle.strip.specs.Outcome.{done}
use Rattle.strip_parts.proofs.Boxed.{boxed, on_box_lem}
use Rattle.cell_record.specs.Record.{record_of}
use Rattle.picking.specs.Picking.{spot_at}
use Rattle.picking.proofs.spot_for_position.Goals as goal

pub record_at-requires : goal.record_at-requires
record_at-requires c = let b = boxed _ _ _ c.in_ok-check_cell.ensures refl in b.formed.long

pub returns : goal.returns
unfolding head_at record_of
returns c =
    let a = c.args in
    let b = boxed _ _ _ c.in_ok-check_cell.ensures refl in
    rw (on_box_lem _ (λ c. done (spot_at c.head a.x a.y) []) b, c.short_on.ensures, c.short_on-2.ensures, c.axes.ensures.x, c.axes.ensures.y, c.record_at.ensures)
