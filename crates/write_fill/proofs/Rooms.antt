-- An accepted cell leaves room for each part of its pages: the ends of its blocks stay below 2^28. Assumes nothing.
use Prim.Native.Nat.{ℕ, ◌*◌, ◌^◌, ◌≤◌, ◌<◌}
use mathlib.Core.Path.{◌≡◌, refl}
use mathlib.Core.List.{List, [], ◌∷◌, ◌++◌}
use native.Mathlib.Omega.{arith}
use lib.ListN.{length}
use Rattle.strip.specs.Cell.{Cell}
use Rattle.write_blocks.specs.Layout.{end_of, behind}
use Rattle.write_blocks.specs.Lists.{part_count, part_sizes, offset_sizes, list_sizes}
use Rattle.write_blocks.proofs.Layouts.{end_ge, end_sum, at_of}
use Rattle.write_blocks.specs.Optional.{size_of}
use Rattle.write_pages.specs.Sectors as Sectors
use Rattle.write_pages.specs.Sectors.{Sector, byte_count}
use Rattle.write_pages.specs.Sectors.Sector.{leaf, node}
use Rattle.write_pages.specs.Pages.{all_corners, vertices, links, sectors, counts, end_header, end_vertices, end_indices, end_edges, end_polygons, end_sectors}
use Rattle.write_pages.specs.Accepted.{Accepted}
use Rattle.write_pages.proofs.Placed.{few_corners}
use Rattle.write_ends.proofs.Behind.{ListRooms, list_rooms}
use Rattle.write_ends.proofs.Cells.{sum_tree}
use Rattle.write_rest.specs.Rest.{RestFilled, Near}
use Rattle.write_rest.proofs.Ends.{links_below, portals_below, sectors_below}
use Rattle.write_fill.specs.Filled.{ListsFilled}
use Rattle.write_rest.specs.declared.ListEnds.{ListEnds}
use Rattle.write_rest.specs.declared.RestEnds.{RestEnds}

-- the first of some blocks ends before the last
first_near : (end n : ℕ) (ns : List ℕ) → behind end n ≤ end_of end (n ∷ ns)
first_near end n ns = end_ge (behind end n) ns

header_near : (end w n : ℕ) → behind end 48 ≤ end_of end (list_sizes w n)
header_near end w n = first_near end 48 (16 * part_count w n ∷ (part_sizes w n ++ offset_sizes (part_count w n)))

root_near : (end : ℕ) (t : Sector) → behind end 96 ≤ end_of end (Sectors.sizes t)
unfolding Sectors.sizes
root_near end (leaf b is ts) = first_near end 96 (size_of (2 * length is) ++ (size_of (8 * length ts) ++ (32 ∷ [])))
root_near end (node b t0 t1 t2 t3) = first_near end 96 (Sectors.sizes t0 ++ (Sectors.sizes t1 ++ (Sectors.sizes t2 ++ Sectors.sizes t3)))

-- the lists begin behind the header
pub header_at : (c : Cell) {xs ys : List ℕ} {a : ListEnds} → ListsFilled c xs ys a → a.header.at ≡ end_header (counts c) (sectors c)
unfolding end_header
header_at c f = at_of f.header

module _ (c : Cell) (acc : Accepted c) where
  -- ---- ends

  lists_below : end_polygons (counts c) (sectors c) < 2 ^ 28
  unfolding end_sectors
  lists_below = omega (arith, sectors_below c acc, end_ge (end_polygons (counts c) (sectors c)) (Sectors.sizes (sectors c)))

  pub bytes_few : byte_count (sectors c) < 2 ^ 28
  unfolding end_sectors
  bytes_few = omega (arith, sectors_below c acc, end_sum (end_polygons (counts c) (sectors c)) (Sectors.sizes (sectors c)), sum_tree (sectors c))

  -- ---- the lists

  pub rooms : ListRooms (length (vertices c)) (length (all_corners c)) (length c.polys)
  unfolding end_polygons end_edges end_indices end_vertices end_header counts
  rooms = list_rooms (length (vertices c)) (length (all_corners c)) (length c.polys) acc.few_vertices (few_corners c acc) acc.few_polygons lists_below

  -- ---- the blocks that the header names

  module _ {xs ys ws zs : List ℕ} {a : ListEnds} {b : RestEnds} (f : ListsFilled c xs ys a) (g : RestFilled c a.polygons ws zs b) where
    pub all_near : (q m : ℕ) → q ≡ length c.portals → m ≡ length (links c) → Near a b q m
    unfolding end_sectors end_edges end_indices end_vertices end_header counts
    all_near q m eq em = record {
      vertices = rw (header_at c f) (omega (arith, (rooms.vertices _ refl).below, header_near (end_header (counts c) (sectors c)) 6 (length (vertices c))));
      indices = rw f.vertices (omega (arith, (rooms.indices _ refl).below, header_near (end_vertices (counts c) (sectors c)) 2 (length (all_corners c))));
      edges = rw f.indices (omega (arith, (rooms.edges _ refl).below, header_near (end_indices (counts c) (sectors c)) 8 (length (all_corners c))));
      polygons = rw f.edges (omega (arith, (rooms.polygons _ refl).below, header_near (end_edges (counts c) (sectors c)) 48 (length c.polys)));
      root = rw f.polygons (omega (arith, sectors_below c acc, root_near (end_polygons (counts c) (sectors c)) (sectors c)));
      portals = rw (g.sectors_end, eq) (portals_below c acc);
      links = rw (g.portals_end, em) (links_below c acc);
      few_portals = omega (arith, eq, acc.few_portals);
      few_links = omega (arith, em, acc.few_links);
    }
