-- An accepted cell's sectors, portals and links end below 2^28. Assumes nothing.
use Prim.Native.Nat.{◌*◌, ◌^◌, ◌<◌}
use native.Mathlib.Omega.{arith}
use lib.ListN.{length}
use Rattle.strip.specs.Cell.{Cell}
use Rattle.write_blocks.specs.Layout.{end_of}
use Rattle.write_blocks.proofs.Layouts.{end_ge}
use Rattle.write_blocks.specs.Optional.{size_of}
use Rattle.write_pages.specs.Sectors as Sectors
use Rattle.write_pages.specs.Pages.{all_corners, vertices, links, sectors, counts, end_header, end_vertices, end_indices, end_edges, end_polygons, end_sectors, end_portals}
use Rattle.write_pages.specs.Accepted.{Accepted}
use Rattle.write_pages.proofs.Placed.{pages_short}
use Rattle.write_ends.specs.Ends.{pages_end}
use Rattle.write_ends.proofs.Cells.{cell_end}

module _ (c : Cell) (acc : Accepted c) where
  pub links_below : end_of (end_portals (counts c) (sectors c)) (size_of (2 * length (links c))) < 2 ^ 28
  unfolding end_portals end_sectors end_polygons end_edges end_indices end_vertices end_header counts
  links_below =
      let below : pages_end (length (vertices c)) (length (all_corners c)) (length c.polys) (length c.portals) (length (links c)) (Sectors.sizes (sectors c)) < 2 ^ 28 = omega (arith, cell_end c, pages_short c acc) in
      below

  pub portals_below : end_of (end_sectors (counts c) (sectors c)) (size_of (28 * length c.portals)) < 2 ^ 28
  unfolding end_portals counts
  portals_below = omega (arith, links_below, end_ge (end_portals (counts c) (sectors c)) (size_of (2 * length (links c))))

  pub sectors_below : end_sectors (counts c) (sectors c) < 2 ^ 28
  sectors_below = omega (arith, portals_below, end_ge (end_sectors (counts c) (sectors c)) (size_of (28 * length c.portals)))
