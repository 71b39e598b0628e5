-- `write_fill::fill_lists` meets its contract: each list is laid out where the one before it ends, from the words that hold its items.
use mathlib.Core.Path.{◌≡◌, ap, ◌∙◌}
use native.Mathlib.Omega.{arith}
use lib.ListN.{length}
use Rattle.write_blocks.specs.Laid.{allocated}
use Rattle.write_blocks.specs.declared.Layout.{Layout}
use Rattle.write_blocks.proofs.Layouts.{place_near, at_of}
use Rattle.write_pages.specs.Pages.{counts, sectors, end_header}
use Rattle.write_decide.proofs.Places.{cut}
use Rattle.write_plan.proofs.Rest.{rest_fits}
use Rattle.strip.specs.Laid.{cell_at}
use Rattle.write_fill.proofs.Lists.{header_end, vertices_ask, indices_ask, edges_ask, polygons_ask, vertices_step, indices_step, edges_step, polygons_step, four_laid, work_left}
use Rattle.write_fill.proofs.fill_lists.Goals as goal
use Rattle.write_fill.proofs.fill_lists.Goals.{After-alloc-header}

pub work_places-places-requires : goal.work_places-places-requires
work_places-places-requires c = omega (arith, c.requires.held.room, c.well_formed)

pub alloc-header-requires : goal.alloc-header-requires
alloc-header-requires c = rw c.new.ensures (omega (arith, place_near 0 368))

-- the header ends where the lists begin
headed : (c : After-alloc-header) → let cell = cell_at c.args.strip.now c.args.d.counts in c.alloc-header.result.at ≡ end_header (counts cell) (sectors cell)
headed c = header_end (cell_at c.args.strip.now c.args.d.counts) (at_of c.alloc-header.ensures ∙ rw c.new.ensures)

-- ---- what each call asks for
pub lay_vertices-vertices-requires : goal.lay_vertices-vertices-requires
lay_vertices-vertices-requires c =
    let places = cut (length c.args.strip.now) c.args.d.counts c.work_places-places.ensures in
    vertices_ask c.args.strip.now c.args.work.now c.args.d c.requires _ (headed (goal.at.lay_vertices-vertices-requires c).After-alloc-header) _ places.vertices

pub lay_indices-indices-requires : goal.lay_indices-indices-requires
lay_indices-indices-requires c =
    let places = cut (length c.args.strip.now) c.args.d.counts c.work_places-places.ensures in
    let laid-vertices = vertices_step c.args.strip.now c.args.work.now c.args.d c.requires (headed (goal.at.lay_indices-indices-requires c).After-alloc-header) _ places.vertices c.lay_vertices-vertices.ensures in
    indices_ask c.args.strip.now c.args.work.now c.args.d c.requires _ laid-vertices.ends _ places.indices

pub lay_edges-edges-requires : goal.lay_edges-edges-requires
lay_edges-edges-requires c =
    let places = cut (length c.args.strip.now) c.args.d.counts c.work_places-places.ensures in
    let laid-vertices = vertices_step c.args.strip.now c.args.work.now c.args.d c.requires (headed (goal.at.lay_edges-edges-requires c).After-alloc-header) _ places.vertices c.lay_vertices-vertices.ensures in
    let laid-indices = indices_step c.args.strip.now c.args.work.now c.args.d c.requires laid-vertices.ends _ places.indices c.lay_indices-indices.ensures in
    let rest-inside = rest_fits c.args.strip.now c.args.d.counts c.requires.long c.requires.length_is in
    edges_ask c.args.strip.now c.args.work.now c.args.d c.requires _ laid-indices.ends _ (omega (arith, places, rest-inside))

pub offset_bounds-work-places : goal.offset_bounds-work-places
offset_bounds-work-places c =
    let places = cut (length c.args.strip.now) c.args.d.counts c.work_places-places.ensures in
    omega (arith, c.requires.held.room, places, c.well_formed)

pub slice_bounds-lay_polygons-count : goal.slice_bounds-lay_polygons-count
slice_bounds-lay_polygons-count c =
    let places = cut (length c.args.strip.now) c.args.d.counts c.work_places-places.ensures in
    omega (arith, places)

pub slice_bounds-lay_polygons-start : goal.slice_bounds-lay_polygons-start
slice_bounds-lay_polygons-start c =
    let places = cut (length c.args.strip.now) c.args.d.counts c.work_places-places.ensures in
    omega (arith, places)

pub slice_bounds-lay_polygons-end : goal.slice_bounds-lay_polygons-end
slice_bounds-lay_polygons-end c =
    let places = cut (length c.args.strip.now) c.args.d.counts c.work_places-places.ensures in
    -- the edges' items are made before twice the strip's words, and before the quarter boxes
    let left = work_left c.args.strip.now c.args.work.now c.args.d c.requires _ _ _ c.lay_edges-edges.ensures.made (omega (arith, places, c.requires.tabled.few_corners)) (omega (arith, places, c.requires.tabled.few_corners)) in
    omega (arith, left.kept.held.room, places)

pub lay_polygons-polygons-requires : goal.lay_polygons-polygons-requires
lay_polygons-polygons-requires c =
    let places = cut (length c.args.strip.now) c.args.d.counts c.work_places-places.ensures in
    let laid-vertices = vertices_step c.args.strip.now c.args.work.now c.args.d c.requires (headed (goal.at.lay_polygons-polygons-requires c).After-alloc-header) _ places.vertices c.lay_vertices-vertices.ensures in
    let laid-indices = indices_step c.args.strip.now c.args.work.now c.args.d c.requires laid-vertices.ends _ places.indices c.lay_indices-indices.ensures in
    let laid-edges = edges_step c.args.strip.now c.args.work.now c.args.d c.requires laid-indices.ends c.lay_edges-edges.ensures.laid in
    -- the edges' items are made before twice the strip's words, and before the quarter boxes
    let left = work_left c.args.strip.now c.args.work.now c.args.d c.requires _ _ _ c.lay_edges-edges.ensures.made (omega (arith, places, c.requires.tabled.few_corners)) (omega (arith, places, c.requires.tabled.few_corners)) in
    polygons_ask c.args.strip.now c.args.work.now c.args.d c.requires _ left.kept.held _ laid-edges.ends _ c.work_places-places.ensures

pub returns : goal.returns
returns c =
    let places = cut (length c.args.strip.now) c.args.d.counts c.work_places-places.ensures in
    let laid-vertices = vertices_step c.args.strip.now c.args.work.now c.args.d c.requires (headed (goal.at.returns c).After-alloc-header) _ places.vertices c.lay_vertices-vertices.ensures in
    let laid-indices = indices_step c.args.strip.now c.args.work.now c.args.d c.requires laid-vertices.ends _ places.indices c.lay_indices-indices.ensures in
    let laid-edges = edges_step c.args.strip.now c.args.work.now c.args.d c.requires laid-indices.ends c.lay_edges-edges.ensures.laid in
    -- the edges' items are made before twice the strip's words, and before the quarter boxes
    let left = work_left c.args.strip.now c.args.work.now c.args.d c.requires _ _ _ c.lay_edges-edges.ensures.made (omega (arith, places, c.requires.tabled.few_corners)) (omega (arith, places, c.requires.tabled.few_corners)) in
    let header = c.alloc-header.ensures ∙ ap (λ (l : Layout). allocated l 368) c.new.ensures in
    let laid-polygons = polygons_step c.args.strip.now c.args.work.now c.args.d c.requires laid-edges.ends c.lay_polygons-polygons.ensures in
    record {
      pages = four_laid (cell_at c.args.strip.now c.args.d.counts) header laid-vertices laid-indices laid-edges laid-polygons;
      work = left;
    }
