-- The sectors of a cell: an accepted cell leaves room for them, and they are laid out as its pages have them. Assumes nothing.
use Prim.Native.Nat.{ℕ, ◌*◌, ◌≤◌}
use mathlib.Core.Path.{◌≡◌, refl}
use mathlib.Core.List.{List, ◌++◌}
use native.Mathlib.Omega.{arith}
use lib.ListN.{length}
use Rattle.strip.specs.Cell.{Cell}
use Rattle.write_blocks.specs.Layout.{end_of}
use Rattle.write_blocks.specs.Laid.{Laid}
use Rattle.write_blocks.specs.Lists.{list_sizes}
use Rattle.write_blocks.proofs.Layouts.{end_append, end_ge}
use Rattle.write_blocks.specs.Optional.{size_of}
use Rattle.write_pages.specs.Sectors as Sectors
use Rattle.write_pages.specs.Sectors.{Sector, leaves, tree_blocks}
use Rattle.write_pages.specs.Accepted.{Accepted}
use Rattle.write_pages.specs.Pages.{HeaderCounts, bb_min, bb_size, counts, sectors, sizes, sizes_of, pages, end_header, end_vertices, end_indices, end_edges, end_polygons, end_sectors}
use Rattle.write_pages.proofs.Placed.{pages_short}
use Rattle.write_pages.proofs.Sizes.{pages_length}
use Rattle.write_pages.proofs.LeafCounts.{few_stored}
use Rattle.write_leaves.specs.declared.SectorCursor.{SectorCursor}
use Rattle.write_leaves.specs.Written.{TreeRoom, Wrote}
use Rattle.write_sectors.proofs.Steps.{laid_of}

-- ---- room

-- what stands behind the sectors ends the pages
sectors_end : (n : HeaderCounts) (t : Sector) → end_sectors n t ≤ end_of 0 (sizes_of n t)
unfolding sizes_of end_sectors end_polygons end_edges end_indices end_vertices end_header
sectors_end n t =
    let ps : List ℕ = size_of (28 * n.portals) in
    let ls : List ℕ = size_of (2 * n.links) in
    let e0 = end_header n t in
    let v = list_sizes 6 n.vertices in
    let i = list_sizes 2 n.indices in
    let e = list_sizes 8 n.indices in
    let p = list_sizes 48 n.polygons in
    let s = Sectors.sizes t in
    rw (
      end_append e0 v (i ++ (e ++ (p ++ (s ++ (ps ++ ls))))),
      end_append (end_vertices n t) i (e ++ (p ++ (s ++ (ps ++ ls)))),
      end_append (end_indices n t) e (p ++ (s ++ (ps ++ ls))),
      end_append (end_edges n t) p (s ++ (ps ++ ls)),
      end_append (end_polygons n t) s (ps ++ ls),
    ) (end_ge (end_sectors n t) (ps ++ ls))

pub cell_room : (c : Cell) → Accepted c → TreeRoom (sectors c) (end_polygons (counts c) (sectors c)) 0
unfolding end_sectors sizes
cell_room c a =
    let n = counts c in
    let t = sectors c in
    let l : length (pages c) ≡ end_of 0 (sizes_of n t) = pages_length c in
    record {
      few = a.leaves;
      small = omega (arith, pages_short c a, sectors_end n t);
      numbers = omega (arith, few_stored c a);
    }

-- ---- the blocks

-- a writer that stands behind the polygons lays out the sectors of the cell's pages
pub cell_laid : (c : Cell) {k : ℕ} {p r : SectorCursor} {xs ys : List ℕ} → p.layout.at ≡ end_polygons (counts c) (sectors c) → p.first ≡ 0
    → Wrote (bb_min c) (bb_size c) (sectors c) k p r xs ys
    → Laid p.layout (tree_blocks (bb_min c) (bb_size c) (end_polygons (counts c) (sectors c)) 0 (sectors c)) r.layout xs ys
cell_laid c e f w = laid_of (bb_min c) (bb_size c) (record { ends = e; leaves = refl; points = f }) w
