-- Yards of four polygons in cell 7, computed: 0 leads to 1 by a poly that is cut, 1 to 2 by a portal, one way; the portal back has one own area alone, and the
-- edge of 3, which has no vertex, is surplus. Assumes nothing.
use Prim.Native.Nat.{ℕ}
use mathlib.Core.Path.{◌≡◌, refl}
use mathlib.Core.List.{List, [], ◌∷◌}
use Rattle.nobody.specs.Nobody.{cut, nobody}
use Rattle.strip.specs.Cell.{Vec3, NavEdgeEnd, NavEdge, NavPoly, NavPortal, Cell}
use Rattle.strip.specs.Outcome.{refused, done}
use Rattle.reach_marks.specs.Marks.{mark, half_pass, edge_pass, visit, lead, cross, portal_pass, marked}
use Rattle.reach.specs.Reached.{poly_pass, pass, settle, marks_of, reached}

abbrev origin : Vec3
origin = record { x = 0; y = 0; z = 0 }

abbrev half : ℕ → ℕ → NavEdgeEnd
half area poly = record { area = area; poly = poly; unk3 = 0; unk2 = 0 }

abbrev yard : List Vec3 → List NavEdge → NavPoly
yard vertices edges = record { flags0 = 0; flags1 = 0; flags2 = 0; links = []; vertices = vertices; edges = edges }

abbrev portal : (area-from area-to poly-from poly-to : ℕ) → NavPortal
portal area-from area-to poly-from poly-to =
    record {
      kind = 1;
      angle = 0;
      flags_unk = 0;
      from = origin;
      to = origin;
      poly_from = poly-from;
      poly_to = poly-to;
      area_from = area-from;
      area_to = area-to;
      area_unk = 0;
    }

abbrev pub yards : Cell
yards =
    record {
      head = record { content = 0; area = 7; version = 0; vft = 0; bb_min = origin; bb_max = origin; bb_size = origin };
      polys =
          yard (origin ∷ []) (record { a = half 7 16383; b = half 7 16385 } ∷ []) ∷
          yard (origin ∷ []) (record { a = half 8 3; b = half 7 4 } ∷ []) ∷
          yard [] [] ∷
          yard [] (record { a = half 7 0; b = half 7 0 } ∷ []) ∷ [];
      portals = portal 7 7 1 2 ∷ portal 7 8 2 0 ∷ [];
      points = [];
    }

pub from_first : reached 0 4 yards ≡ done 3 (1 ∷ 1 ∷ 1 ∷ 0 ∷ [])
unfolding reached marks_of settle pass poly_pass visit edge_pass half_pass nobody cut mark portal_pass cross lead marked
from_first = refl

pub from_third : reached 2 9 yards ≡ done 1 (0 ∷ 0 ∷ 1 ∷ 0 ∷ [])
unfolding reached marks_of settle pass poly_pass visit edge_pass half_pass nobody cut mark portal_pass cross lead marked
from_third = refl

-- surplus edges are no steps
pub from_last : reached 3 4 yards ≡ done 1 (0 ∷ 0 ∷ 0 ∷ 1 ∷ [])
unfolding reached marks_of settle pass poly_pass visit edge_pass half_pass nobody cut mark portal_pass cross lead marked
from_last = refl

-- 42 before 43
pub no_such : reached 4 0 yards ≡ refused 42 0
unfolding reached
no_such = refl

pub few_bytes : reached 3 3 yards ≡ refused 43 0
unfolding reached
few_bytes = refl
