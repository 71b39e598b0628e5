-- `ynv_write::count_pushed` meets its contract: what the polygons and what stands behind them make is the cell's (`pushed_cell`). Assumes nothing.
use mathlib.Core.Path.{◌≡◌, ap}
use native.Mathlib.Omega.{arith}
use Rattle.strip.specs.Reading.{head_at}
use Rattle.cell_record.specs.Floats.{floats}
use Rattle.cell_record.specs.Record.{record_of}
use Rattle.cell_record.specs.declared.CellRecord.{CellRecord}
use Rattle.pushed.proofs.Sums.{pushed_cell, few_of_vertices}
use Rattle.ynv_write.proofs.count_pushed.Goals as goal

pub pushed_behind-requires : goal.pushed_behind-requires
pushed_behind-requires c = omega (arith, c.requires.0, c.requires.1, c.first_portal-first.ensures)

pub overflow_add-result : goal.overflow_add-result
overflow_add-result c =
    let s = c.args.strip.now in
    let few = few_of_vertices (floats (head_at s 0).bb_min) (floats (head_at s 0).bb_size) s c.args.d.counts.polys in
    omega (arith, c.requires.0, c.requires.1, c.requires.3, few, c.pushed_behind.ensures.bound, c.well_formed)

pub returns : goal.returns
unfolding record_of
returns c =
    let s = c.args.strip.now in
    let d = c.args.d in
    let low : d.cell.bb_min ≡ floats (head_at s 0).bb_min = ap (λ (r : CellRecord). r.bb_min) c.requires.2 in
    let size : d.cell.bb_size ≡ floats (head_at s 0).bb_size = ap (λ (r : CellRecord). r.bb_size) c.requires.2 in
    let whole = pushed_cell d.cell.bb_min d.cell.bb_size s d.counts c.args.points low size in
    let polygons = rw (← low, ← size) at c.requires.3 in
    let behind = rw (c.first_portal-first.ensures, c.frame.ensures) at c.pushed_behind.ensures.count in
    omega (arith, whole, polygons, behind)
