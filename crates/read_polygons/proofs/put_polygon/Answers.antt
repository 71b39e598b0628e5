-- `read_polygons::put_polygon` meets its contract: the sides go behind the front, so the two writes are the polygon's words.
use Prim.Native.Nat.{ℕ, ◌/◌, ◌%◌, ◌+◌, ◌≤◌}
use native.Mathlib.Omega.{arith}
use mathlib.Core.Path.{ap, ◌∙◌}
use lib.ListN.{length}
use Rattle.fields.proofs.Puts.{length_put}
use Rattle.read_grammar.specs.Polygons.{start_of, count_of}
use Rattle.read_polygon_words.specs.Front.{links_of}
use Rattle.read_polygons.specs.Passes.{source_in}
use Rattle.read_list_set.proofs.Runs.{length_items}
use Rattle.read_polygons.proofs.Writes.{link_count_is, size_of_lem, polygon_size, polygon_put}
use Rattle.read_polygons.proofs.put_polygon.Goals as goal

pub put_front-requires : goal.put_front-requires
put_front-requires c =
    let link-count = c.link_count-n in
    let u16-le = c.u16_le in
    let z = size_of_lem (length (links_of c.args.pages.now.links.now)) c.args.rec.now (link_count_is c.args.pages.now.links.now c.args.rec.now link-count.ensures.count) u16-le.ensures in ((link_count_is c.args.pages.now.links.now c.args.rec.now link-count.ensures.count), link-count.ensures.bound, ap (λ (a : ℕ). a / 32 % 2048) u16-le.ensures, omega (arith, z, c.requires.2))

pub overflow_add-next : goal.overflow_add-next
overflow_add-next c = let z = size_of_lem (length (links_of c.args.pages.now.links.now)) c.args.rec.now (link_count_is c.args.pages.now.links.now c.args.rec.now c.link_count-n.ensures.count) c.u16_le.ensures in omega (arith, z, c.requires.2, c.well_formed)

pub overflow_add-next-2 : goal.overflow_add-next-2
overflow_add-next-2 c = let z = size_of_lem (length (links_of c.args.pages.now.links.now)) c.args.rec.now (link_count_is c.args.pages.now.links.now c.args.rec.now c.link_count-n.ensures.count) c.u16_le.ensures in omega (arith, z, c.requires.2, c.well_formed)

pub put_sides-cursors-requires : goal.put_sides-cursors-requires
put_sides-cursors-requires c =
    let u16-le = c.u16_le in
    let z = size_of_lem (length (links_of c.args.pages.now.links.now)) c.args.rec.now (link_count_is c.args.pages.now.links.now c.args.rec.now c.link_count-n.ensures.count) u16-le.ensures in record {
      lists_open = (c.requires.0, omega (arith, z, c.requires.2, ap length c.put_front.ensures ∙ length_put _ _ _));
      inside = rw (c.u16_le-start.ensures, u16-le.ensures) c.requires.1;
    }

pub overflow_add-result : goal.overflow_add-result
overflow_add-result c = let z = size_of_lem (length (links_of c.args.pages.now.links.now)) c.args.rec.now (link_count_is c.args.pages.now.links.now c.args.rec.now c.link_count-n.ensures.count) c.u16_le.ensures in omega (arith, z, c.requires.2, c.well_formed)

pub returns : goal.returns
returns c =
    let link-count = c.link_count-n in
    let u16-le = c.u16_le in
    let put_sides = c.put_sides-cursors in
    let args = c.args in
    let pages = args.pages.now in
    let s = source_in pages in
    let rec = args.rec.now in
    let n = link_count_is pages.links.now rec link-count.ensures.count in
    let z = size_of_lem (length (links_of pages.links.now)) rec n u16-le.ensures in
    let hi : start_of rec + count_of rec ≤ length s.indices = omega (arith, c.requires.1.in_indices, length_items pages.reader.system.now pages.reader.graphics.now 2 pages.indices.now) in
    let he : start_of rec + count_of rec ≤ length s.edges = omega (arith, c.requires.1.in_edges, length_items pages.reader.system.now pages.reader.graphics.now 8 pages.edges.now) in
    record {
      next = omega (arith, z, polygon_size s rec hi he);
      ready = put_sides.ensures.cursors;
      strip =
          put_sides.ensures.content
          ∙ rw (c.put_front.ensures, c.u16_le-start.ensures, u16-le.ensures)
          (polygon_put s rec hi he n _ _);
    }
