-- `read_polygon_sides::put_sides` meets its contract: the edges go behind three words for each vertex, so the two writes are one.
use native.Mathlib.Omega.{arith}
use mathlib.Core.Path.{ap, ◌∙◌}
use lib.ListN.{length}
use Rattle.fields.proofs.Puts.{length_put}
use Rattle.read_grammar.specs.Derives.{area_of}
use Rattle.read_records.specs.Back.{back_by}
use Rattle.read_list_set.specs.Items.{items_in}
use Rattle.read_list_set.proofs.Runs.{length_items}
use Rattle.read_polygon_sides.proofs.Sides.{sides_put}
use Rattle.read_polygon_sides.proofs.put_sides.Goals as goal

pub put_vertices-two-requires : goal.put_vertices-two-requires
put_vertices-two-requires c =
    record {
      readable = (c.requires.lists_open.0.vertex_list, c.requires.lists_open.0.index_list, c.requires.lists_open.0.in_vertices, c.requires.lists_open.0.in_indices);
      count_bound = (c.requires.inside.in_indices, omega (arith, c.requires.lists_open.1), c.requires.inside.below);
    }

pub overflow_mul-count : goal.overflow_mul-count
overflow_mul-count c = omega (arith, c.requires.lists_open.1, c.well_formed)

pub overflow_add-at : goal.overflow_add-at
overflow_add-at c = omega (arith, c.requires.lists_open.1, c.well_formed)

pub put_edges-e-requires : goal.put_edges-e-requires
put_edges-e-requires c = (c.requires.lists_open.0.edge_list, c.requires.lists_open.0.in_edges, c.requires.inside.in_edges, omega (arith, c.requires.lists_open.1, ap length c.put_vertices-two.ensures.content ∙ length_put _ _ _))

pub returns : goal.returns
returns c =
    let put-vertices = c.put_vertices-two in
    let put-edges = c.put_edges-e in
    record {
      cursors = record { vertex_list = c.requires.lists_open.0.vertex_list; index_list = c.requires.lists_open.0.index_list; edge_list = c.requires.lists_open.0.edge_list; in_vertices = put-vertices.ensures.vertices; in_indices = put-vertices.ensures.indices; in_edges = put-edges.ensures.cursor };
      content = put-edges.ensures.content ∙ rw put-vertices.ensures.content (sides_put (area_of c.args.pages.now.header.now) (back_by c.args.pages.now.frame.bb_min c.args.pages.now.frame.bb_size) (items_in c.args.pages.now.reader.system.now c.args.pages.now.reader.graphics.now 6 c.args.pages.now.vertices.now) (items_in c.args.pages.now.reader.system.now c.args.pages.now.reader.graphics.now 2 c.args.pages.now.indices.now) (items_in c.args.pages.now.reader.system.now c.args.pages.now.reader.graphics.now 8 c.args.pages.now.edges.now) c.args.start c.args.count (omega (arith, c.requires.inside.in_indices, length_items c.args.pages.now.reader.system.now c.args.pages.now.reader.graphics.now 2 c.args.pages.now.indices.now)) (omega (arith, c.requires.inside.in_edges, length_items c.args.pages.now.reader.system.now c.args.pages.now.reader.graphics.now 8 c.args.pages.now.edges.now)) _ _);
    }
