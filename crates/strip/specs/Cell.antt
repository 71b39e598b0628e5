-- The cell, and the strip of 32-bit words that stands for it. Floats stand as their bits. Definitions only.
use Rattle.std.specs.Prelude.{ℕ, ◌+◌, ◌*◌, List, [], ◌∷◌, ◌++◌, length}
use Rattle.fields.specs.Rows.{pack}

pub record Vec3 : Type 0 where
  pub x : ℕ
  pub y : ℕ
  pub z : ℕ

-- one half of an edge
pub record NavEdgeEnd : Type 0 where
  pub area : ℕ
  pub poly : ℕ
  pub unk3 : ℕ
  pub unk2 : ℕ

pub record NavEdge : Type 0 where
  pub a : NavEdgeEnd
  pub b : NavEdgeEnd

pub record NavPoly : Type 0 where
  pub flags0 : ℕ
  pub flags1 : ℕ
  pub flags2 : ℕ
  pub links : List ℕ
  pub vertices : List Vec3
  pub edges : List NavEdge

pub record NavPortal : Type 0 where
  pub kind : ℕ
  pub angle : ℕ
  pub flags_unk : ℕ
  pub from : Vec3
  pub to : Vec3
  pub poly_from : ℕ
  pub poly_to : ℕ
  pub area_from : ℕ
  pub area_to : ℕ
  pub area_unk : ℕ

pub record NavPoint : Type 0 where
  pub angle : ℕ
  pub kind : ℕ
  pub position : Vec3

-- what the cell's own record holds
pub record Head : Type 0 where
  pub content : ℕ
  pub area : ℕ
  pub version : ℕ
  pub vft : ℕ
  pub bb_min : Vec3
  pub bb_max : Vec3
  pub bb_size : Vec3

pub record Cell : Type 0 where
  pub head : Head
  pub polys : List NavPoly
  pub portals : List NavPortal
  pub points : List NavPoint

-- The words of each record. A first word is a row of bits, the lowest first, with the kind in the top four.

unfoldable pub vec_words : Vec3 → List ℕ
vec_words v = v.x ∷ v.y ∷ v.z ∷ []

-- two numbers in one word, the first in its low 16 bits
abbrev pub joined : ℕ → ℕ → ℕ
joined low high = low + 65536 * high

-- one after the other
unfoldable pub each {ℓ} : {A : Type ℓ} → (A → List ℕ) → List A → List ℕ
each f [] = []
each f (a ∷ rest) = f a ++ each f rest

-- kind 1
unfoldable pub head_words : Head → List ℕ
head_words h =
    pack ((28, 0) ∷ (4, 1) ∷ []) ∷ h.content ∷ h.area ∷ h.version ∷ h.vft ∷ vec_words h.bb_min ++ vec_words h.bb_max ++ vec_words h.bb_size

unfoldable pub half_words : NavEdgeEnd → List ℕ
half_words h = h.area ∷ h.poly ∷ joined h.unk3 h.unk2 ∷ []

unfoldable pub edge_words : NavEdge → List ℕ
edge_words e = half_words e.a ++ half_words e.b

-- A strip's polygons are all of one kind, which is a parameter of its words: plain, with the number 2. There is no other yet.
pub data PolygonKind : Type 0 where
  plain : PolygonKind

abbrev pub kind_number : PolygonKind → ℕ
kind_number plain = 2

unfoldable pub polygon_head_as : PolygonKind → NavPoly → ℕ
polygon_head_as kind p = pack ((12, length p.vertices) ∷ (12, length p.edges) ∷ (4, length p.links) ∷ (4, kind_number kind) ∷ [])

unfoldable pub polygon_words_as : PolygonKind → NavPoly → List ℕ
polygon_words_as kind p =
    polygon_head_as kind p ∷ p.flags0 ∷ p.flags1 ∷ p.flags2 ∷ p.links ++ each vec_words p.vertices ++ each edge_words p.edges

abbrev pub polygon_words : NavPoly → List ℕ
polygon_words = polygon_words_as plain

-- kind 3
unfoldable pub portal_words : NavPortal → List ℕ
portal_words p =
    pack ((8, p.kind) ∷ (8, p.angle) ∷ (12, 0) ∷ (4, 3) ∷ []) ∷ p.flags_unk ∷ vec_words p.from ++ vec_words p.to ++
    (joined p.poly_from p.poly_to ∷ joined p.area_from p.area_to ∷ p.area_unk ∷ [])

-- kind 4
unfoldable pub point_words : NavPoint → List ℕ
point_words p = pack ((8, p.angle) ∷ (8, p.kind) ∷ (12, 0) ∷ (4, 4) ∷ []) ∷ vec_words p.position

-- kind 5
abbrev pub end_words : List ℕ
end_words = pack ((28, 0) ∷ (4, 5) ∷ []) ∷ []

-- the strip of a cell, with polygons of a kind. What callers ask of it are laws: `encode_plain`, `length_encode` (proofs/Plain.antt) and
-- `scan_encode` (proofs/Readback.antt)
unfoldable pub encode_as : PolygonKind → Cell → List ℕ
encode_as kind c =
    head_words c.head ++ each (polygon_words_as kind) c.polys ++ each portal_words c.portals ++ each point_words c.points ++ end_words

abbrev pub encode : Cell → List ℕ
encode = encode_as plain
