-- The pages that the grammar has of the empty vehicle cell are the pages that the writer's definitions give it. Assumes nothing.
use mathlib.Core.Path.{◌≡◌, refl}
use Rattle.read_grammar.specs.Vehicle.{vehicle_header, empty_list, vehicle_sector, vehicle_data, vehicle_pages, vehicle_cell}
use Rattle.write_pages.specs.Pages.{pages}
use Rattle.write_pages.proofs.Examples.{computed}

pub vehicle : pages vehicle_cell ≡ vehicle_pages
unfolding computed vehicle_header empty_list vehicle_sector vehicle_data vehicle_pages vehicle_cell
vehicle = refl
