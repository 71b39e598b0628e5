-- What of a polygon p stands in the polygon q that is read again from the pages of p's cell. Definitions only.
use Rattle.std.specs.Prelude.{ℕ, ◌%◌, ◌^◌, ◌≤◌, ◌<◌, ◌≡◌, length, get_or}
use Rattle.strip.specs.Cell.{NavEdgeEnd, NavEdge, NavPoly}
use Rattle.write_pages.specs.Items.{no_edge}

-- the area in full, the others cut to their bits
pub record KeptHalf (h k : NavEdgeEnd) : Type 0 where
  pub area : k.area ≡ h.area
  pub poly : k.poly ≡ h.poly % 2 ^ 14
  pub unk2 : k.unk2 ≡ h.unk2 % 2 ^ 2
  pub unk3 : k.unk3 ≡ h.unk3 % 2 ^ 11

pub record KeptEdge (e f : NavEdge) : Type 0 where
  pub a : KeptHalf e.a f.a
  pub b : KeptHalf e.b f.b

pub record PolygonKept (p q : NavPoly) : Type 0 where
  pub flags0 : q.flags0 ≡ p.flags0
  pub flags1 : q.flags1 ≡ p.flags1
  pub flags2 : q.flags2 ≡ p.flags2
  pub links : q.links ≡ p.links
  pub vertices : length q.vertices ≡ length p.vertices
  pub edges : length q.edges ≡ length p.vertices
  -- the edges that there are, and NONE where one is missing
  pub edge : (i : ℕ) → i < length p.vertices → i < length p.edges → KeptEdge (get_or p.edges i no_edge) (get_or q.edges i no_edge)
  pub missing : (i : ℕ) → i < length p.vertices → length p.edges ≤ i → get_or q.edges i no_edge ≡ no_edge
