-- `obj_length::measure` meets its contract: the vertices' lines, the numbers, and twice as many bytes as polygons.
use Prim.Native.Nat.{◌+◌}
use mathlib.Core.Path.{◌≡◌}
use native.Mathlib.Omega.{arith}
use lib.ListN.{length}
use Rattle.strip.specs.Cell.{each}
use Rattle.strip.specs.Reading.{head_at}
use Rattle.strip.specs.Rows.{polygons_at}
use Rattle.strip.proofs.Lengths.{poly_count}
use Rattle.cell_record.specs.Floats.{floats}
use Rattle.cell_record.specs.Record.{record_of}
use Rattle.obj_lines.specs.Lines.{spaced, consecutive}
use Rattle.obj_text.specs.Text.{vertex_lines, text_of}
use Rattle.obj_text.specs.Counts.{vertex_count}
use Rattle.obj_text.proofs.Polygons.{text_length}
use Rattle.obj_length.proofs.Lines.{both, and_more, vertices_inside}
use Rattle.obj_length.proofs.Numbers.{faces_length}
use Rattle.obj_length.proofs.measure.Goals as goal

pub numbers_length-requires : goal.numbers_length-requires
numbers_length-requires c = omega (arith, c.well_formed, c.requires.1, c.requires.2, vertices_inside c.args.strip.now c.args.n 14)

pub returns : goal.returns
unfolding head_at record_of
returns c =
    let s = c.args.strip.now in
    let n = c.args.n in
    let ps = polygons_at s 14 n in
    let h = head_at s 0 in
    let first = length (each (vertex_lines (floats h.bb_min) (floats h.bb_size)) ps) in
    let second = length (each spaced (consecutive 1 (vertex_count ps))) in
    let whole : length (text_of h ps) ≡ first + second + n + n = omega (arith, text_length h ps, faces_length ps 1, poly_count s n) in
    let lines-counted = rw (c.frame.ensures, c.record_at-cell.ensures) at c.polygons_length.ensures in
    let numbers-counted = rw c.requires.2 at c.numbers_length.ensures in
    let summed-up = both first second lines-counted numbers-counted c.saturating_add.ensures in
    rw whole (and_more (first + second + n) n (and_more (first + second) n summed-up c.saturating_add-2.ensures) c.saturating_add-3.ensures)
