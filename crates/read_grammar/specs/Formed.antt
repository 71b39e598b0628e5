-- What every cell that sections make has, in words that don't speak of the sections. Definitions only.
use Rattle.std.specs.Prelude.{ℕ, ◌≤◌, ◌<◌, ◌≡◌, false, List, length, get_or}
use Rattle.std.specs.Float.{binary32}
use Rattle.std.specs.Float.Ieee.{of_bits, is_nan}
use Rattle.strip.specs.Cell.{Vec3, NavPoly, NavPortal, Cell}
use Rattle.strip.specs.Fits.{All}

-- the bytes of a `&[u8]`
abbrev pub Bytes : List ℕ → Type 0
Bytes s = (k : ℕ) → get_or s k 0 < 256

-- no coordinate is a NaN
pub record AllNumbers (v : Vec3) : Type 0 where
  pub x : is_nan (of_bits binary32 v.x) ≡ false
  pub y : is_nan (of_bits binary32 v.y) ≡ false
  pub z : is_nan (of_bits binary32 v.z) ≡ false

-- both ends of a portal
pub record Ends (P : Vec3 → Type 0) (p : NavPortal) : Type 0 where
  pub from : P p.from
  pub to : P p.to

-- every position that is turned back from shorts
pub record Positions (P : Vec3 → Type 0) (c : Cell) : Type 0 where
  pub polys : All (λ p. All P p.vertices) c.polys
  pub portals : All (Ends P) c.portals
  pub points : All (λ t. P t.position) c.points

-- what reading makes of a polygon: as many edges as vertices, at most 2,047 of them, and at most 7 links
pub record Shaped (p : NavPoly) : Type 0 where
  pub edges : length p.edges ≡ length p.vertices
  pub few_vertices : length p.vertices ≤ 2047
  pub few_links : length p.links ≤ 7
