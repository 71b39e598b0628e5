-- The code's addresses and counts as the definition's. Definitions only.
use Rattle.write_pages.specs.Pages.{Places, HeaderCounts}
use Rattle.write_header.specs.declared.Addresses.{Addresses}
use Rattle.write_header.specs.declared.Totals.{Totals}

abbrev pub places_in : Addresses → Places
places_in a = record {
  vertices = a.vertices;
  indices = a.indices;
  edges = a.edges;
  polygons = a.polygons;
  root = a.root;
  portals = a.portals;
  links = a.links;
}

abbrev pub counts_in : Totals → HeaderCounts
counts_in n = record {
  vertices = n.vertices;
  indices = n.indices;
  areas = n.areas;
  polygons = n.polygons;
  points = n.points;
  portals = n.portals;
  links = n.links;
  total = n.total;
}
