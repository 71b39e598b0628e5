-- What a pass over the polygons tells: how many vertices they have, or which is the first thin one. Only inner contracts use this. Definitions only.
use Rattle.std.specs.Prelude.{ℕ, ◌≡◌, List, Result, Ok, Err, Some, None}
use Rattle.strip.specs.Cell.{NavPoly}
use Rattle.picking.specs.Picking.{first_from}
use Rattle.obj_text.specs.Counts.{vertex_count}
use Rattle.obj_room.specs.Thin.{is_thin}

abbrev pub Tells : List NavPoly → Result ℕ ℕ → Type 0
Tells ps (Ok n) = (first_from is_thin 0 ps ≡ None) × (n ≡ vertex_count ps)
Tells ps (Err k) = first_from is_thin 0 ps ≡ Some k
