-- What a step of the count is about, where that is less than the cell. No promise of an exported function cites this. Definitions only.
use Rattle.std.specs.Prelude.{List}
use Rattle.strip.specs.Cell.{NavPoint, Cell}

-- the cell with these points alone
abbrev pub with_points : Cell → List NavPoint → Cell
with_points c ps = record { head = c.head; polys = c.polys; portals = c.portals; points = ps }
