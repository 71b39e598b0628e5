-- `fill` meets its contract. There is room for each part, and the parts make the strip (proofs/Fills).
use mathlib.Core.Path.{ap, subst, ◌∙◌}
use lib.ListN.{length}
use native.Mathlib.Omega.{arith}
use Rattle.fields.specs.Put.{put}
use Rattle.strip.specs.Cell.{Head, head_words}
use Rattle.read_grammar.specs.Formed.{Bytes}
use Rattle.ynv_read.proofs.Records.{cell_of, head_is}
use Rattle.ynv_read.proofs.Fills.{room, filled}
use Rattle.ynv_read.proofs.fill.Goals as goal

pub put_cell-requires : goal.put_cell-requires
put_cell-requires c = let m = room c.args.reader.system.now c.args.reader.graphics.now c.requires.1 in omega (arith, m.all)

pub fill_polygons-portals_at-requires : goal.fill_polygons-portals_at-requires
fill_polygons-portals_at-requires c =
    let m = room c.args.reader.system.now c.args.reader.graphics.now c.requires.1 in record {
      given = cell_of c.args.reader.system.now c.args.reader.graphics.now c.requires.0 c.record_of-cell.ensures;
      lists_ready = (m.ready, m.polys_are, m.polys_fit _ (omega (arith, m.all)));
    }

pub fill_portals-points_at-requires : goal.fill_portals-points_at-requires
fill_portals-points_at-requires c = let m = room c.args.reader.system.now c.args.reader.graphics.now c.requires.1 in (cell_of c.args.reader.system.now c.args.reader.graphics.now c.requires.0 c.record_of-cell.ensures, m.portals_there, omega (arith, m.all, c.fill_polygons-portals_at.ensures.next))

pub fill_points-end-requires : goal.fill_points-end-requires
fill_points-end-requires c = let m = room c.args.reader.system.now c.args.reader.graphics.now c.requires.1 in (cell_of c.args.reader.system.now c.args.reader.graphics.now c.requires.0 c.record_of-cell.ensures, m.points_fit _ _ (omega (arith, m.all, c.fill_polygons-portals_at.ensures.next, c.fill_portals-points_at.ensures.next)))

pub offset_bounds-strip-end : goal.offset_bounds-strip-end
offset_bounds-strip-end c = let m = room c.args.reader.system.now c.args.reader.graphics.now c.requires.1 in omega (arith, c.well_formed.1.1.1.1.0, m.all, c.fill_polygons-portals_at.ensures.next, c.fill_portals-points_at.ensures.next, c.fill_points-end.ensures.next, ap length m.points_are)

pub bounds-strip-end : goal.bounds-strip-end
bounds-strip-end c = let m = room c.args.reader.system.now c.args.reader.graphics.now c.requires.1 in omega (arith, m.all, c.fill_polygons-portals_at.ensures.next, c.fill_portals-points_at.ensures.next, c.fill_points-end.ensures.next, ap length m.points_are)

pub returns : goal.returns
returns c =
    let S = c.args.reader.system.now in
    let G = c.args.reader.graphics.now in
    let old = c.args.strip.now in
    let m = room S G c.requires.1 in
    let known = cell_of S G c.requires.0 c.record_of-cell.ensures in
    let head = head_is S G known.cell_is (subst Bytes c.requires.0.header_is (λ i. omega (arith, c.type_inv.header i))) (subst Bytes c.requires.0.root_is (λ i. omega (arith, c.type_inv.root i))) m.box in
    λ cell k e. filled S G e old (c.put_cell.ensures ∙ ap (λ (h : Head). put 0 (head_words h) old) head) (c.fill_polygons-portals_at.ensures.next, c.fill_polygons-portals_at.ensures.content) (c.fill_portals-points_at.ensures.next, c.fill_portals-points_at.ensures.content) (c.fill_points-end.ensures.next, c.fill_points-end.ensures.content)
