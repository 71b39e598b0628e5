-- `obj_text::put_obj` meets its contract: the faces are stored behind the vertices.
use native.Mathlib.Omega.{arith}
use Rattle.decimal.proofs.Stored.{stored_then, kept}
use Rattle.strip.specs.Reading.{head_at}
use Rattle.strip.specs.Rows.{polygons_at}
use Rattle.cell_record.specs.Record.{record_of}
use Rattle.obj_text.specs.Text.{text_of}
use Rattle.obj_text.proofs.Polygons.{text_length}
use Rattle.obj_text.proofs.put_obj.Goals as goal

pub put_polygons-to-requires : goal.put_polygons-to-requires
unfolding head_at record_of
put_polygons-to-requires c =
    let s = c.args.strip.now in
    rw (c.frame.ensures, c.record_at-cell.ensures) (c.requires.1, omega (arith, c.requires.2, text_length (head_at s 0) (polygons_at s 14 c.args.n)))

pub put_faces-requires : goal.put_faces-requires
unfolding head_at record_of
put_faces-requires c =
    let s = c.args.strip.now in
    let lines = rw (c.frame.ensures, c.record_at-cell.ensures) at c.put_polygons-to.ensures in
    (c.requires.1, omega (arith, c.requires.2, text_length (head_at s 0) (polygons_at s 14 c.args.n), kept lines, lines.place))

pub returns : goal.returns
unfolding text_of head_at record_of
returns c =
    let lines = rw (c.frame.ensures, c.record_at-cell.ensures) at c.put_polygons-to.ensures in
    stored_then lines c.put_faces.ensures
