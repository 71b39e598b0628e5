-- The four lists of a planned strip: what each asks for, and that together they are the lists of its cell's pages. Assumes nothing.
use Prim.Native.Nat.{ℕ, ◌+◌, ◌*◌, ◌-◌, ◌≤◌}
use mathlib.Core.Path.{◌≡◌, sym, ap, subst, ◌∙◌}
use mathlib.Core.List.{List}
use native.Mathlib.Omega.{arith}
use lib.ListN.{length, take, drop}
use Rattle.fields.specs.Put.{put}
use Rattle.fields.proofs.Puts.{length_put, drop_behind}
use Rattle.strip.specs.Cell.{Cell}
use Rattle.strip.specs.Reading.{head_at}
use Rattle.strip.specs.Rows.{polygons_at, after_polygons}
use Rattle.areas.specs.Tables.{area_ids}
use Rattle.cell_record.proofs.Fields.{area_is}
use Rattle.write_vertices.specs.Table.{met}
use Rattle.write_blocks.specs.Layout.{behind, end_of}
use Rattle.write_blocks.specs.Laid.{empty, allocated, Laid}
use Rattle.write_blocks.specs.Lists.{list_sizes, list_blocks}
use Rattle.write_blocks.specs.ListRoom.{Wide, ListRoom}
use Rattle.write_blocks.specs.declared.Layout.{Layout}
use Rattle.write_blocks.proofs.Layouts.{laid_end, laid_then}
use Rattle.write_pages.specs.Items.{vertex_items, index_items, edge_items, polygon_items}
use Rattle.write_pages.specs.Pages.{all_corners, vertices, areas, sectors, counts, end_header, end_vertices, end_indices, end_edges, end_polygons}
use Rattle.write_pages.proofs.Sizes.{list_size, wide_vertices, wide_indices, wide_edges, wide_polygons, length_vertices, length_indices, length_edges, length_polygons}
use Rattle.write_decide.specs.Decide.{trees, indices_at, tables_end, work_places}
use Rattle.write_decide.specs.declared.Decision.{Decision}
use Rattle.write_decide.specs.declared.WorkPlaces.{WorkPlaces}
use Rattle.write_plan.specs.Plan.{boxes, WorkHeld}
use Rattle.strip.specs.Laid.{cell_at}
use Rattle.write_plan.specs.Ready.{Ready}
use Rattle.write_lists.specs.Words.{number_items}
use Rattle.write_edges.specs.Made.{edge_words, corners_at}
use Rattle.write_vertices.proofs.Triples.{length_met}
use Rattle.strip.proofs.Lengths.{poly_count}
use Rattle.write_plan.proofs.Rest.{box_part_lem}
use Rattle.write_lists.proofs.Tables.{relaid, index_items_lem}
use Rattle.write_edges.proofs.Halves.{length_words}
use Rattle.write_fill.specs.Filled.{lists_of, ListsFilled, Left}
use Rattle.write_fill.proofs.Rooms.{rooms}
use Rattle.fields.specs.Sizes.{list_vft_edges, list_vft_indices, list_vft_polys, list_vft_vertices}

-- ---- one list behind the other

-- a list of these items, laid out from l to r where it belongs, which is at `end`, and ending where the next one begins
pub record ListLaid (end next vft w : ℕ) (items : List (List ℕ)) (l r : Layout) (xs ys : List ℕ) : Type 0 where
  pub ends : r.at ≡ next
  pub laid : Laid l (list_blocks end vft w items) r xs ys

-- it is, when the list of equal items is laid out from there
list_step : {l r : Layout} (end vft w n : ℕ) {items : List (List ℕ)} (items' : List (List ℕ)) {xs ys : List ℕ} → Wide w items' → length items' ≡ n → l.at ≡ end → items ≡ items'
    → Laid l (list_blocks l.at vft w items) r xs ys → ListLaid end (end_of end (list_sizes w n)) vft w items' l r xs ys
list_step {l} {r} end vft w n items' {xs} {ys} wide e at same f =
    let laid = subst (λ (k : ℕ). Laid l (list_blocks k vft w items') r xs ys) at (relaid vft w same f) in
    record { ends = laid_end laid ∙ rw (list_size end vft w n items' wide e, at); laid = laid }

-- ---- the four of a cell

module _ (c : Cell) where
  abbrev pub VerticesLaid : Layout → Layout → List ℕ → List ℕ → Type 0
  VerticesLaid = ListLaid (end_header (counts c) (sectors c)) (end_vertices (counts c) (sectors c)) list_vft_vertices 6 (vertex_items (vertices c))

  abbrev pub IndicesLaid : Layout → Layout → List ℕ → List ℕ → Type 0
  IndicesLaid = ListLaid (end_vertices (counts c) (sectors c)) (end_indices (counts c) (sectors c)) list_vft_indices 2 (index_items (vertices c) (all_corners c))

  abbrev pub EdgesLaid : Layout → Layout → List ℕ → List ℕ → Type 0
  EdgesLaid = ListLaid (end_indices (counts c) (sectors c)) (end_edges (counts c) (sectors c)) list_vft_edges 8 (edge_items (areas c) (all_corners c))

  abbrev pub PolygonsLaid : Layout → Layout → List ℕ → List ℕ → Type 0
  PolygonsLaid = ListLaid (end_edges (counts c) (sectors c)) (end_polygons (counts c) (sectors c)) list_vft_polys 48 (polygon_items c.head.area 0 0 0 c.polys)

  pub four_laid : {h lv li le lp : Layout} {x0 x1 x2 x3 x4 : List ℕ} → h ≡ allocated empty 368
      → VerticesLaid h lv x0 x1 → IndicesLaid lv li x1 x2 → EdgesLaid li le x2 x3 → PolygonsLaid le lp x3 x4
      → ListsFilled c x0 x4 (record { header = h; vertices = lv; indices = li; edges = le; polygons = lp })
  unfolding lists_of
  four_laid e v i s p = record {
    header = e;
    vertices = v.ends;
    indices = i.ends;
    edges = s.ends;
    polygons = p.ends;
    laid = laid_then v.laid (laid_then i.laid (laid_then s.laid p.laid));
  }

pub header_end : (c : Cell) {q : ℕ} → q ≡ behind 0 368 → q ≡ end_header (counts c) (sectors c)
unfolding end_header
header_end c e = e

-- ---- what each of them asks for, of the words of work w and the decision d

module _ (s w : List ℕ) (d : Decision) (R : Ready s w d) where
  abbrev cell : Cell
  cell = cell_at s d.counts

  many_vertices : d.vertices ≡ length (vertices cell)
  unfolding vertices
  many_vertices = sym (length_met w (trees (length s)) d.vertices) ∙ ap length R.tabled.vertices

  many_polys : length (polygons_at s 14 d.counts.polys) ≡ d.counts.polys
  many_polys = poly_count s d.counts.polys

  pub polys_inside : after_polygons s 14 d.counts.polys ≤ length s
  polys_inside = omega (arith, R.length_is)

  pub vertices_ask : (q : ℕ) → q ≡ end_header (counts cell) (sectors cell)
      → (at : ℕ) → at ≡ trees (length s) → (at + 2 * d.vertices ≤ length w) × ListRoom q 6 d.vertices (list_sizes 6 d.vertices)
  unfolding end_header
  vertices_ask q e at here =
      (omega (arith, here, R.tabled.few_vertices, R.tabled.few_corners, R.room), rw many_vertices ((rooms cell R.accepted).vertices q e))

  pub indices_ask : (q : ℕ) → q ≡ end_vertices (counts cell) (sectors cell)
      → (at : ℕ) → at ≡ indices_at (length s) → (at + d.corners ≤ length w) × ListRoom q 2 d.corners (list_sizes 2 d.corners)
  unfolding end_vertices end_header counts
  indices_ask q e at here =
      (omega (arith, here, R.tabled.few_corners, R.room), rw R.tabled.corner_count ((rooms cell R.accepted).indices q e))

  -- edges may be made wherever work has room for them
  pub edges_ask : (q : ℕ) → q ≡ end_indices (counts cell) (sectors cell) → (at : ℕ) → at ≤ 3 * length s
      → (after_polygons s 14 d.counts.polys ≤ length s) × (d.corners ≡ length (corners_at s d.counts.polys)) × (at + 2 * d.corners ≤ length w)
      × ListRoom q 8 d.corners (list_sizes 8 d.corners)
  unfolding end_indices end_vertices end_header counts
  edges_ask q e at here = (
    polys_inside,
    R.tabled.corner_count,
    omega (arith, R.tabled.few_corners, R.room),
    rw R.tabled.corner_count ((rooms cell R.accepted).edges q e),
  )

  pub polygons_ask : (w' : List ℕ) → WorkHeld s d.counts w' → (q : ℕ) → q ≡ end_edges (counts cell) (sectors cell) → (places : WorkPlaces) → places ≡ work_places (length s) d.counts
      → (after_polygons s 14 d.counts.polys ≤ length s)
      × (take (places.leaves - places.boxes) (drop places.boxes w') ≡ boxes (polygons_at s 14 d.counts.polys))
      × ListRoom q 48 d.counts.polys (list_sizes 48 d.counts.polys)
  unfolding end_edges end_indices end_vertices end_header counts
  polygons_ask w' held q e places here = (
    polys_inside,
    box_part_lem s w' d.counts held places here,
    rw many_polys at ((rooms cell R.accepted).polygons q e),
  )

  -- ---- the items that they lay out are the cell's

  pub vertices_step : {l r : Layout} {xs ys : List ℕ} → l.at ≡ end_header (counts cell) (sectors cell) → (at : ℕ) → at ≡ trees (length s)
      → Laid l (list_blocks l.at list_vft_vertices 6 (vertex_items (met w at d.vertices))) r xs ys → VerticesLaid cell l r xs ys
  unfolding end_vertices counts vertices
  vertices_step e at here f =
      let vs = vertices cell in
      list_step (end_header (counts cell) (sectors cell)) list_vft_vertices 6 (length vs) (vertex_items vs) (wide_vertices vs) (length_vertices vs) e (ap vertex_items (rw here R.tabled.vertices)) f

  pub indices_step : {l r : Layout} {xs ys : List ℕ} → l.at ≡ end_vertices (counts cell) (sectors cell) → (at : ℕ) → at ≡ indices_at (length s)
      → Laid l (list_blocks l.at list_vft_indices 2 (number_items 2 (take d.corners (drop at w)))) r xs ys → IndicesLaid cell l r xs ys
  unfolding end_indices counts vertices
  indices_step e at here f =
      let vs = vertices cell in
      let ks = all_corners cell in
      list_step (end_vertices (counts cell) (sectors cell)) list_vft_indices 2 (length ks) (index_items vs ks) (wide_indices vs ks) (length_indices vs ks) e (rw (here, R.tabled.indices) (index_items_lem vs ks)) f

  pub edges_step : {l r : Layout} {xs ys : List ℕ} → l.at ≡ end_indices (counts cell) (sectors cell)
      → Laid l (list_blocks l.at list_vft_edges 8 (edge_items (area_ids d.areas) (corners_at s d.counts.polys))) r xs ys → EdgesLaid cell l r xs ys
  unfolding end_edges counts areas
  edges_step e f =
      let us = areas cell in
      let ks = all_corners cell in
      list_step (end_indices (counts cell) (sectors cell)) list_vft_edges 8 (length ks) (edge_items us ks) (wide_edges us ks) (length_edges us ks) e (ap (λ (ids : List ℕ). edge_items ids ks) R.tabled.areas) f

  pub polygons_step : {l r : Layout} {xs ys : List ℕ} → l.at ≡ end_edges (counts cell) (sectors cell)
      → Laid l (list_blocks l.at list_vft_polys 48 (polygon_items d.cell.area_id 0 0 0 (polygons_at s 14 d.counts.polys))) r xs ys → PolygonsLaid cell l r xs ys
  unfolding end_polygons counts
  polygons_step e f =
      let ps = polygons_at s 14 d.counts.polys in
      let area = (head_at s 0).area in
      list_step (end_edges (counts cell) (sectors cell)) list_vft_polys 48 (length ps) (polygon_items area 0 0 0 ps) (wide_polygons area 0 0 0 ps) (length_polygons area 0 0 0 ps) e (rw (area_is (head_at s 0) d.cell R.tabled.cell)) f

  -- ---- work, where the edges were made: before the quarter boxes, and before twice the strip's words

  module _ (ids : List ℕ) (at : ℕ) (w' : List ℕ) (e : w' ≡ put at (edge_words ids (corners_at s d.counts.polys)) w)
      (inside : at + 2 * d.corners ≤ 2 * length s) (apart : at + 2 * d.corners ≤ tables_end (length s)) where
    behind_edges : (k : ℕ) → at + 2 * d.corners ≤ k → drop k w' ≡ drop k w
    behind_edges k h =
        let made = edge_words ids (corners_at s d.counts.polys) in
        rw e (drop_behind at made w k (omega (arith, length_words ids (corners_at s d.counts.polys), R.tabled.corner_count)))

    pub work_left : Left s d.counts w w'
    work_left = record {
      kept = record {
        accepted = R.accepted;
        held = record {
          room = omega (arith, R.held.room, same);
          boxes_held = rw (behind_edges (tables_end (length s)) apart) R.held.boxes_held;
          leaves_held = rw (behind_edges (tables_end (length s) + 3 * d.counts.polys) (omega arith)) R.held.leaves_held;
        };
        length_is = R.length_is;
        long = R.long;
      };
      long = same;
      beyond = behind_edges (2 * length s) inside;
    }
      where
        same : length w' ≡ length w
        same = rw e (length_put at (edge_words ids (corners_at s d.counts.polys)) w)
