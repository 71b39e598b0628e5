-- `picking::pick_poly` meets its contract: the search among the polygons of the cell that the checks found.
use mathlib.Core.List.{[]}
use mathlib.Core.Path.{refl, ap}
use native.Mathlib.Omega.{arith}
use Rattle.strip.specs.Outcome.{done, values}
use Rattle.strip_parts.proofs.Boxed.{boxed, on_box_lem}
use Rattle.picking.specs.Picking.{lowest}
use Rattle.picking.proofs.pick_poly.Goals as goal

pub first_containing-requires : goal.first_containing-requires
first_containing-requires c =
    let b = boxed _ _ _ c.in_ok-counts.ensures refl in
    (b.formed.long, omega (arith, b.formed.length_is))

pub returns : goal.returns
returns c =
    let a = c.args in
    let b = boxed _ _ _ c.in_ok-counts.ensures refl in
    rw (on_box_lem _ (λ c. done (lowest (record { x = a.x; y = a.y }) c) []) b) (ap values c.first_containing.ensures)
