-- How long the pages of a planned strip are, by its decision and the words behind its tables. Assumes nothing.
use Prim.Native.Nat.{ℕ, ◌+◌, ◌≤◌}
use mathlib.Core.Path.{◌≡◌, sym, ap, ◌∙◌}
use mathlib.Core.List.{List}
use native.Mathlib.Omega.{arith}
use lib.ListN.{length}
use Rattle.quarters.specs.declared.bounds.Aabb.{Aabb}
use Rattle.strip.specs.Cell.{Cell}
use Rattle.strip.specs.Reading.{word, head_at, nav_portal_at}
use Rattle.strip.specs.Rows.{after_polygons}
use Rattle.strip.specs.declared.Counts.{Counts}
use Rattle.strip.proofs.Steps.{items_length}
use Rattle.cell_record.specs.Record.{root_in}
use Rattle.cell_record.proofs.Fields.{flags_are, root_is}
use Rattle.write_vertices.proofs.Triples.{length_met}
use Rattle.write_pages.specs.Sectors as Sectors
use Rattle.write_pages.specs.Sectors.{byte_count, depth_of, root_box}
use Rattle.write_pages.specs.Pages.{vertices, links, sectors, sizes, pages}
use Rattle.write_blocks.specs.Laid.{empty, reached, sum_of, Within}
use Rattle.write_blocks.specs.declared.Layout.{Layout}
use Rattle.write_blocks.proofs.Layouts.{at_of, reached_at}
use Rattle.write_pages.proofs.Sizes.{pages_length}
use Rattle.write_pages.proofs.Placed.{few_corners, pages_short}
use Rattle.write_decide.specs.Decide.{trees, work_places}
use Rattle.write_decide.specs.declared.Decision.{Decision}
use Rattle.write_decide.specs.declared.WorkPlaces.{WorkPlaces}
use Rattle.write_plan.specs.Plan.{points_in}
use Rattle.strip.specs.Laid.{cell_at}
use Rattle.write_plan.specs.Ready.{Ready}
use Rattle.strip.proofs.Lengths.{poly_count}
use Rattle.write_plan.proofs.Rest.{box_part, leaf_part, part_long, part_tree}
use Rattle.write_ends.specs.Ends.{sizes_by, pages_sizes}
use Rattle.write_ends.proofs.Cells.{sizes_tree, sum_tree, cell_sizes}

same_sizes : {v v' i i' p p' q q' l l' : ℕ} {t t' : List ℕ} → v ≡ v' → i ≡ i' → p ≡ p' → q ≡ q' → l ≡ l' → t ≡ t' → pages_sizes v i p q l t ≡ pages_sizes v' i' p' q' l' t'
same_sizes ev ei ep eq el et = rw (ev, ei, ep, eq, el, et)

-- the layout behind all blocks of a cell ends where its pages do
pub pages_reached : (c : Cell) {l : Layout} → l ≡ reached empty (sizes c) → l.at ≡ length (pages c)
pages_reached c e = at_of e ∙ reached_at empty (sizes c) ∙ sym (pages_length c)

pub portals_many : (s : List ℕ) (n : Counts) → n.portals ≡ length (cell_at s n).portals
portals_many s n = sym (items_length (nav_portal_at s) (λ x. x + 11) n.portals (after_polygons s 14 n.polys))

module _ (s w : List ℕ) (d : Decision) (R : Ready s w d) where
  abbrev cell : Cell
  cell = cell_at s d.counts

  -- ---- the decision's counts are the cell's

  pub vertex_count : d.vertices ≡ length (vertices cell)
  unfolding vertices
  vertex_count = sym (length_met w (trees (length s)) d.vertices) ∙ ap length R.tabled.vertices

  pub link_count : d.links ≡ length (links cell)
  unfolding links
  link_count = R.tabled.link_count

  pub polygon_count : d.counts.polys ≡ length cell.polys
  polygon_count = sym (poly_count s d.counts.polys)

  pub portal_count : d.counts.portals ≡ length cell.portals
  portal_count = portals_many s d.counts

  -- ---- and the words give its sectors' sizes

  module _ (places : WorkPlaces) (here : places ≡ work_places (length s) d.counts) (b : Aabb) (root : b ≡ root_in d.cell) where
    abbrev sizes_in : List ℕ
    sizes_in = sizes_by (box_part s w d.counts R.held places here) (leaf_part s w d.counts R.held places here) (depth_of d.cell.content_flags) 0 b

    sizes_are : sizes_in ≡ Sectors.sizes (sectors cell)
    unfolding sectors head_at
    sizes_are =
        let flags = flags_are (head_at s 0) d.cell R.tabled.cell in
        let whole : b ≡ root_box (head_at s 0) = root ∙ root_is (head_at s 0) d.cell R.tabled.cell in
        rw flags
        (sym (sizes_tree (box_part s w d.counts R.held places here) (leaf_part s w d.counts R.held places here) (points_in s d.counts) (part_long s w d.counts R.held places here) (depth_of (word s 1)) 0 b)
        ∙ ap Sectors.sizes (part_tree s w d.counts R.held places here b whole))

    abbrev all_sizes : List ℕ
    all_sizes = pages_sizes d.vertices d.corners d.counts.polys d.counts.portals d.links sizes_in

    all_are : all_sizes ≡ sizes cell
    all_are = same_sizes vertex_count R.tabled.corner_count polygon_count portal_count link_count sizes_are ∙ cell_sizes cell

    pub planned_ends : {end : Layout} {bytes : ℕ} → end ≡ reached empty all_sizes → bytes ≡ sum_of sizes_in → (end ≡ reached empty (sizes cell)) × (bytes ≡ byte_count (sectors cell))
    planned_ends e b = (e ∙ ap (reached empty) all_are, b ∙ ap sum_of sizes_are ∙ sum_tree (sectors cell))

    pub planned_small : (d.vertices ≤ 65536) × (d.corners ≤ 67582) × (d.counts.polys ≤ 16383) × Within empty all_sizes
    planned_small = (
      omega (arith, vertex_count, R.accepted.few_vertices),
      omega (arith, R.tabled.corner_count, few_corners cell R.accepted),
      omega (arith, polygon_count, R.accepted.few_polygons),
      record { below = rw all_are (omega (arith, pages_length cell, pages_short cell R.accepted)) },
    )
