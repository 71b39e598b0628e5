-- Shorts turned back in a box that is held as floats, and the shorts that bytes hold. Definitions only.
use Rattle.std.specs.Prelude.{ℕ, ◌+◌, List}
use Rattle.fields.specs.Bytes.{le_at}
use Rattle.math.specs.declared.vec3.Vec3 as Floats
use Rattle.quantise.specs.Coordinates.{coordinates}
use Rattle.quantise.specs.declared.short.Shorts.{Shorts}
use Rattle.strip.specs.Cell.{Vec3}
use Rattle.cell_record.specs.Record.{bits}
use Rattle.cell_record.specs.declared.CellRecord.{CellRecord}

-- three shorts turned back, from the box's min and its size, as bits
unfoldable pub back_by : Floats.Vec3 → Floats.Vec3 → ℕ → ℕ → ℕ → Vec3
back_by bb-min bb-size x y z = bits (coordinates (record { x = x; y = y; z = z }) bb-min bb-size)

-- in the box of a cell
abbrev pub back_in : CellRecord → ℕ → ℕ → ℕ → Vec3
back_in c = back_by c.bb_min c.bb_size

-- the three shorts that stand in b from off on
abbrev pub shorts_at : List ℕ → ℕ → Shorts
shorts_at b off = record { x = le_at 2 b off; y = le_at 2 b (off + 2); z = le_at 2 b (off + 4) }
