-- The cells that a strip can hold: counts and parts of a word keep to their bits, and every word to 32. Definitions only.
use Rattle.std.specs.Prelude.{ℕ, ◌^◌, ◌<◌, List, [], ◌∷◌, length}
use Rattle.strip.specs.Cell.{NavEdgeEnd, NavEdge, NavPoly, NavPortal, NavPoint, Cell, encode}

abbrev pub All : {A : Type 0} → (A → Type 0) → List A → Type 0
All P [] = Unit
All P (a ∷ rest) = P a × All P rest

pub record HalfFits (h : NavEdgeEnd) : Type 0 where
  pub unk3 : h.unk3 < 2 ^ 16
  pub unk2 : h.unk2 < 2 ^ 8

pub record EdgeFits (e : NavEdge) : Type 0 where
  pub a : HalfFits e.a
  pub b : HalfFits e.b

pub record PolygonFits (p : NavPoly) : Type 0 where
  pub vertex_count : length p.vertices < 2 ^ 12
  pub edge_count : length p.edges < 2 ^ 12
  pub link_count : length p.links < 2 ^ 4
  pub flags0 : p.flags0 < 2 ^ 16
  pub links : All (λ w. w < 2 ^ 16) p.links
  pub edges : All EdgeFits p.edges

pub record PortalFits (p : NavPortal) : Type 0 where
  pub kind : p.kind < 2 ^ 8
  pub angle : p.angle < 2 ^ 8
  pub flags_unk : p.flags_unk < 2 ^ 16
  pub poly_from : p.poly_from < 2 ^ 16
  pub area_from : p.area_from < 2 ^ 16
  pub area_unk : p.area_unk < 2 ^ 8

pub record PointFits (p : NavPoint) : Type 0 where
  pub angle : p.angle < 2 ^ 8
  pub kind : p.kind < 2 ^ 8

pub record Fits (c : Cell) : Type 0 where
  pub polys : All PolygonFits c.polys
  pub portals : All PortalFits c.portals
  pub points : All PointFits c.points

-- the words of a `&[u32]`
abbrev pub Words : List ℕ → Type 0
Words = All (λ w. w < 2 ^ 32)

pub record InRange (c : Cell) : Type 0 where
  pub fits : Fits c
  pub words : Words (encode c)
