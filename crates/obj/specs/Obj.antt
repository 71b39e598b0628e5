-- What exporting a strip as a drawing has to decide (document 02, No. 3). Definitions only.
use Rattle.std.specs.Prelude.{ℕ, cond, List, leb, length, Option, Some, None}
use Rattle.strip.specs.Cell.{NavPoly, Head}
use Rattle.strip.specs.Outcome.{Outcome, refused, done}
use Rattle.strip_parts.specs.Boxed.{box_outcome}
use Rattle.picking.specs.Picking.{first_from}
use Rattle.obj_text.specs.Text.{text_of}
use Rattle.obj_room.specs.Thin.{is_thin}

-- "then 41": the first such polygon's number, and otherwise what else is decided
abbrev pub unless_thin : Option ℕ → Outcome ℕ → Outcome ℕ
unless_thin (Some k) other = refused 41 k
unless_thin None other = other

-- "then 2": against the text's length
abbrev pub with_room : ℕ → List ℕ → Outcome ℕ
with_room room text = cond (leb (length text) room) (done (length text) text) (refused 2 0)

unfoldable pub drawn : ℕ → Head → List NavPoly → Outcome ℕ
drawn room h ps = unless_thin (first_from is_thin 0 ps) (with_room room (text_of h ps))

-- "Checks: 3, 10, then 41, then 2": what the call has to decide of a strip and a text of so many bytes
abbrev pub obj_outcome : List ℕ → ℕ → Outcome ℕ
obj_outcome strip room = box_outcome (λ c. drawn room c.head c.polys) strip
