-- The cell that reading the pages of a cell gives. Definitions only.
use Rattle.std.specs.Prelude.{◌%◌, ◌^◌, map}
use Rattle.math.specs.declared.vec3.Vec3.{Vec3 as Floats}
use Rattle.quantise.specs.Short.{shorts}
use Rattle.quantise.specs.Coordinates.{coordinates}
use Rattle.strip.specs.Cell.{Vec3, NavEdgeEnd, NavEdge, NavPoly, NavPortal, NavPoint, Cell}
use Rattle.cell_record.specs.Record.{bits}
use Rattle.write_pages.specs.Items.{floats, corners_in}
use Rattle.write_pages.specs.Preorder.{preorder}
use Rattle.write_pages.specs.Pages.{bb_min, bb_size, sectors}

-- areas are kept in full; poly, unk2 and unk3 are cut to their bits
unfoldable pub half_again : NavEdgeEnd → NavEdgeEnd
half_again h = record { area = h.area; poly = h.poly % 2 ^ 14; unk3 = h.unk3 % 2 ^ 11; unk2 = h.unk2 % 2 ^ 2 }

unfoldable pub edge_again : NavEdge → NavEdge
edge_again e = record { a = half_again e.a; b = half_again e.b }

module _ (bb-min bb-size : Floats) where
  -- shorts turned back
  unfoldable pub position_again : Vec3 → Vec3
  position_again v = bits (coordinates (shorts (floats v) bb-min bb-size) bb-min bb-size)

  -- reading makes as many edges as vertices
  unfoldable pub polygon_again : NavPoly → NavPoly
  polygon_again p = record {
    flags0 = p.flags0;
    flags1 = p.flags1;
    flags2 = p.flags2;
    links = p.links;
    vertices = map position_again p.vertices;
    edges = map (λ k. edge_again k.edge) (corners_in bb-min bb-size p);
  }

  -- areas are cut to their bits
  unfoldable pub portal_again : NavPortal → NavPortal
  portal_again p = record {
    kind = p.kind;
    angle = p.angle;
    flags_unk = p.flags_unk;
    from = position_again p.from;
    to = position_again p.to;
    poly_from = p.poly_from;
    poly_to = p.poly_to;
    area_from = p.area_from % 2 ^ 14;
    area_to = p.area_to % 2 ^ 14;
    area_unk = p.area_unk % 2 ^ 4;
  }

  unfoldable pub point_again : NavPoint → NavPoint
  point_again t = record { angle = t.angle; kind = t.kind; position = position_again t.position }

-- the points that are stored come leaf by leaf, in preorder
unfoldable pub reread : Cell → Cell
reread c = record {
  head = c.head;
  polys = map (polygon_again (bb_min c) (bb_size c)) c.polys;
  portals = map (portal_again (bb_min c) (bb_size c)) c.portals;
  points = map (point_again (bb_min c) (bb_size c)) (preorder (sectors c));
}
