-- The cell that is read again fits a strip where the cell that was saved does, so that its words scan to it. Assumes nothing.
use native.Mathlib.Omega.{arith}
use mathlib.Core.Path.{◌≡◌, ◌∙◌}
use lib.ListN.{length-map}
use Rattle.math.specs.declared.vec3.Vec3.{Vec3 as Floats}
use Rattle.strip.specs.Cell.{NavEdgeEnd, NavEdge, NavPoly, NavPortal, NavPoint, Cell, plain, encode}
use Rattle.strip.specs.Fits.{HalfFits, EdgeFits, PolygonFits, PortalFits, PointFits, Fits}
use Rattle.strip.specs.Scan.{Scanned, scan}
use Rattle.strip.proofs.Readback.{scan_encode}
use Rattle.strip.proofs.Alls.{all_map, all_images}
use Rattle.write_pages.specs.Items.{corners_in}
use Rattle.write_pages.specs.Preorder.{preorder}
use Rattle.write_pages.specs.Pages.{bb_min, bb_size, sectors}
use Rattle.write_pages.specs.Reread.{half_again, edge_again, position_again, polygon_again, portal_again, point_again, reread}
use Rattle.write_pages.proofs.Placed.{length_corners}
use Rattle.readback.proofs.Root.{sectors_points}

half_fits : (h : NavEdgeEnd) → HalfFits (half_again h)
unfolding half_again
half_fits h = record { unk3 = omega arith; unk2 = omega arith }

edge_fits : (e : NavEdge) → EdgeFits (edge_again e)
unfolding edge_again
edge_fits e = record { a = half_fits e.a; b = half_fits e.b }

module _ (bb-min bb-size : Floats) where
  -- as many edges as vertices
  polygon_fits : (p : NavPoly) → PolygonFits p → PolygonFits (polygon_again bb-min bb-size p)
  unfolding polygon_again
  polygon_fits p f =
      let vertices = length-map p.vertices (position_again bb-min bb-size) in
      let edges = length-map (corners_in bb-min bb-size p) (λ k. edge_again k.edge) ∙ length_corners bb-min bb-size p.vertices p.edges in
      record {
        vertex_count = rw vertices f.vertex_count;
        edge_count = rw edges f.vertex_count;
        link_count = f.link_count;
        flags0 = f.flags0;
        links = f.links;
        edges = all_images EdgeFits (λ k. edge_again k.edge) (λ k. edge_fits k.edge) (corners_in bb-min bb-size p);
      }

  portal_fits : (p : NavPortal) → PortalFits p → PortalFits (portal_again bb-min bb-size p)
  unfolding portal_again
  portal_fits p f = record {
    kind = f.kind;
    angle = f.angle;
    flags_unk = f.flags_unk;
    poly_from = f.poly_from;
    area_from = omega arith;
    area_unk = omega arith;
  }

  point_fits : (t : NavPoint) → PointFits t → PointFits (point_again bb-min bb-size t)
  unfolding point_again
  point_fits t f = record { angle = f.angle; kind = f.kind }

reread_fits : (c : Cell) → Fits c → Fits (reread c)
unfolding reread
reread_fits c f = record {
  polys = all_map PolygonFits PolygonFits (polygon_again (bb_min c) (bb_size c)) (polygon_fits (bb_min c) (bb_size c)) c.polys f.polys;
  portals = all_map PortalFits PortalFits (portal_again (bb_min c) (bb_size c)) (portal_fits (bb_min c) (bb_size c)) c.portals f.portals;
  points = all_map PointFits PointFits (point_again (bb_min c) (bb_size c)) (point_fits (bb_min c) (bb_size c)) (preorder (sectors c)) (sectors_points c PointFits f.points);
}

pub reread_scans : (c : Cell) → Fits c → scan (encode (reread c)) ≡ Scanned.ok (reread c)
reread_scans c f = scan_encode plain (reread c) (reread_fits c f)
