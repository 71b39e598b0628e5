-- Where a walker can get to (document 02, No. 7): steps between polygons, and the polygons that some chain of steps leads to, as relations and apart
-- from any search. Definitions only.
use Rattle.std.specs.Prelude.{ℕ, zero, suc, ◌<◌, ◌≡◌, false, List, ◌∷◌, ◌⊎◌, length, take}
use Rattle.nobody.specs.Nobody.{cut, nobody}
use Rattle.strip.specs.Cell.{Cell, NavEdgeEnd, NavEdge, NavPoly, NavPortal}

-- "an edge half whose area is the cell's own id and whose poly, cut to 14 bits, is below 16383": 16383 is nobody, and no number cut to
-- 14 bits is greater
pub record HalfLeads (own : ℕ) (h : NavEdgeEnd) (j : ℕ) : Type 0 where
  pub area : h.area ≡ own
  pub poly : cut h.poly ≡ j
  pub some : nobody h.poly ≡ false

-- some half of some edge
pub data EdgesLead (own : ℕ) : List NavEdge → ℕ → Type 0 where
  by_a : {e : NavEdge} {es : List NavEdge} {j : ℕ} → HalfLeads own e.a j → EdgesLead own (e ∷ es) j
  by_b : {e : NavEdge} {es : List NavEdge} {j : ℕ} → HalfLeads own e.b j → EdgesLead own (e ∷ es) j
  later : {e : NavEdge} {es : List NavEdge} {j : ℕ} → EdgesLead own es j → EdgesLead own (e ∷ es) j

-- "Only edges below the vertex count serve."
abbrev pub served : NavPoly → List NavEdge
served p = take (length p.vertices) p.edges

-- the polygon of a number, counted from the list's first, leads to another
pub data PolygonLeads (own : ℕ) : List NavPoly → ℕ → ℕ → Type 0 where
  here : {p : NavPoly} {ps : List NavPoly} {j : ℕ} → EdgesLead own (served p) j → PolygonLeads own (p ∷ ps) zero j
  later : {p : NavPoly} {ps : List NavPoly} {i j : ℕ} → PolygonLeads own ps i j → PolygonLeads own (p ∷ ps) (suc i) j

-- "A portal whose two areas, 16 bits as in the strip, equal the own id is a step from poly_from to poly_to": one way, its polys as they stand
pub data PortalLeads (own : ℕ) : List NavPortal → ℕ → ℕ → Type 0 where
  here : {q : NavPortal} {qs : List NavPortal} → q.area_from ≡ own → q.area_to ≡ own → PortalLeads own (q ∷ qs) q.poly_from q.poly_to
  later : {q : NavPortal} {qs : List NavPortal} {i j : ℕ} → PortalLeads own qs i j → PortalLeads own (q ∷ qs) i j

-- a step leads to "a polygon of the strip. A target beyond the last polygon leads nowhere."
abbrev pub Step : Cell → ℕ → ℕ → Type 0
Step c i j = (j < length c.polys) × (PolygonLeads c.head.area c.polys i j ⊎ PortalLeads c.head.area c.portals i j)

-- "each polygon to which some chain of steps leads from there, the start included": the least such set
pub data Reach (c : Cell) (from : ℕ) : ℕ → Type 0 where
  start : Reach c from from
  step : {i j : ℕ} → Reach c from i → Step c i j → Reach c from j
