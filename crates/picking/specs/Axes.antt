-- The axes of the box of a cell's record: lo from bb_min and extent from bb_size. Only the contracts of `x_axis` and `y_axis` use this. Definitions only.
use Rattle.cell_record.specs.declared.CellRecord.{CellRecord}
use Rattle.pick_contains.specs.declared.Axis.{Axis}

abbrev pub x_axis : CellRecord → Axis
x_axis r = record { lo = r.bb_min.x; extent = r.bb_size.x }

abbrev pub y_axis : CellRecord → Axis
y_axis r = record { lo = r.bb_min.y; extent = r.bb_size.y }
