-- What a strip of 32-bit words leaves room for in the cell that it stands for. Assumes nothing.
use mathlib.Core.List.{List, [], ◌∷◌, ◌++◌}
use Prim.Native.Nat.{ℕ, ◌^◌, ◌<◌}
use native.Mathlib.Omega.{arith}
use Rattle.strip.proofs.Alls.{all_apart}
use Rattle.strip.proofs.Plain.{encode_plain}
use Rattle.strip.specs.Cell.{NavEdge, NavPoly, NavPortal, Head, Cell, each, vec_words, half_words, edge_words, polygon_words, polygon_words_as, portal_words, point_words, head_words, end_words}
use Rattle.strip.specs.Fits.{All, PolygonFits, PortalFits, PointFits, InRange}
use Rattle.cell_record.specs.Words.{WordVec}

pub record WordHead (h : Head) : Type 0 where
  pub content : h.content < 2 ^ 32
  pub area : h.area < 2 ^ 32
  pub version : h.version < 2 ^ 32
  pub vft : h.vft < 2 ^ 32
  pub bb_min : WordVec h.bb_min
  pub bb_max : WordVec h.bb_max
  pub bb_size : WordVec h.bb_size

pub record WordEdge (e : NavEdge) : Type 0 where
  pub a : e.a.area < 2 ^ 32
  pub b : e.b.area < 2 ^ 32

pub record WordPolygon (p : NavPoly) : Type 0 where
  pub flags0 : p.flags0 < 2 ^ 16
  pub flags1 : p.flags1 < 2 ^ 32
  pub flags2 : p.flags2 < 2 ^ 32
  pub links : All (λ x. x < 2 ^ 16) p.links
  pub edges : All WordEdge p.edges

pub record FinePortal (p : NavPortal) : Type 0 where
  pub kind : p.kind < 2 ^ 8
  pub angle : p.angle < 2 ^ 8
  pub flags_unk : p.flags_unk < 2 ^ 16
  pub poly_from : p.poly_from < 2 ^ 16
  pub poly_to : p.poly_to < 2 ^ 16

pub record Formed (c : Cell) : Type 0 where
  pub head : WordHead c.head
  pub polys : All WordPolygon c.polys
  pub portals : All FinePortal c.portals
  pub points : All PointFits c.points

abbrev Word : ℕ → Type 0
Word x = x < 2 ^ 32

edges_formed : (es : List NavEdge) → All Word (each edge_words es) → All WordEdge es
unfolding each edge_words half_words
edges_formed [] h = tt
edges_formed (e ∷ es) h = (record { a = h.0; b = h.1.1.1.0 }, edges_formed es h.1.1.1.1.1.1)

polygon_formed : (p : NavPoly) → PolygonFits p → All Word (polygon_words p) → WordPolygon p
unfolding polygon_words_as
polygon_formed p f h =
    let last = (all_apart Word (p.links ++ each vec_words p.vertices) (each edge_words p.edges) h.1.1.1.1).1 in
    record { flags0 = f.flags0; flags1 = h.1.1.0; flags2 = h.1.1.1.0; links = f.links; edges = edges_formed p.edges last }

polygons_formed : (ps : List NavPoly) → All PolygonFits ps → All Word (each polygon_words ps) → All WordPolygon ps
unfolding each
polygons_formed [] f h = tt
polygons_formed (p ∷ ps) f h =
    let w = all_apart Word (polygon_words p) (each polygon_words ps) h in
    (polygon_formed p f.0 w.0, polygons_formed ps f.1 w.1)

portal_formed : (p : NavPortal) → PortalFits p → All Word (portal_words p) → FinePortal p
unfolding portal_words vec_words
portal_formed p f h =
    record { kind = f.kind; angle = f.angle; flags_unk = f.flags_unk; poly_from = f.poly_from; poly_to = omega (arith, h.1.1.1.1.1.1.1.1.0) }

portals_formed : (ps : List NavPortal) → All PortalFits ps → All Word (each portal_words ps) → All FinePortal ps
unfolding each
portals_formed [] f h = tt
portals_formed (p ∷ ps) f h =
    let w = all_apart Word (portal_words p) (each portal_words ps) h in
    (portal_formed p f.0 w.0, portals_formed ps f.1 w.1)

head_formed : (h : Head) → All Word (head_words h) → WordHead h
unfolding head_words vec_words
head_formed h k =
    record {
      content = k.1.0;
      area = k.1.1.0;
      version = k.1.1.1.0;
      vft = k.1.1.1.1.0;
      bb_min = record { x = k.1.1.1.1.1.0; y = k.1.1.1.1.1.1.0; z = k.1.1.1.1.1.1.1.0 };
      bb_max = record { x = k.1.1.1.1.1.1.1.1.0; y = k.1.1.1.1.1.1.1.1.1.0; z = k.1.1.1.1.1.1.1.1.1.1.0 };
      bb_size = record { x = k.1.1.1.1.1.1.1.1.1.1.1.0; y = k.1.1.1.1.1.1.1.1.1.1.1.1.0; z = k.1.1.1.1.1.1.1.1.1.1.1.1.1.0 };
    }

pub formed : (c : Cell) → InRange c → Formed c
formed c r =
    let a = head_words c.head in
    let b = each polygon_words c.polys in
    let d = each portal_words c.portals in
    let e = each point_words c.points in
    let w₁ = all_apart Word (((a ++ b) ++ d) ++ e) end_words (rw (encode_plain c) at r.words) in
    let w₂ = all_apart Word ((a ++ b) ++ d) e w₁.0 in
    let w₃ = all_apart Word (a ++ b) d w₂.0 in
    let w₄ = all_apart Word a b w₃.0 in
    record {
      head = head_formed c.head w₄.0;
      polys = polygons_formed c.polys r.fits.polys w₄.1;
      portals = portals_formed c.portals r.fits.portals w₃.1;
      points = r.fits.points;
    }
