-- What a walk knows of its strip, and what it does to the marks: polygons take their steps and portals theirs, in any order. Definitions only.
use Rattle.std.specs.Prelude.{ℕ, ◌+◌, ◌*◌, ◌≤◌, ◌<◌, ◌≡◌, List, length, get_or}
use Rattle.strip.specs.Reading.{polygon_at, nav_portal_at}
use Rattle.strip.specs.Rows.{after_polygons}
use Rattle.reach_marks.specs.Step.{served}
use Rattle.reach_marks.specs.Marks.{visit, cross}
use Rattle.reach_places.specs.Places.{Places}
use Rattle.reach_walk.specs.declared.Ground.{Ground}

-- of a strip with n polygons
pub record Known (s : List ℕ) (n : ℕ) (g : Ground) (places : List ℕ) : Type 0 where
  pub table : Places s n g.stride places
  pub portals : g.portal_at ≡ after_polygons s 14 n
  pub inside : g.portal_at + 11 * g.portals ≤ length s

-- the marks that a polygon's steps leave, and a portal's
abbrev pub visited : List ℕ → Ground → ℕ → List ℕ → List ℕ
visited s g i = visit g.own (served (polygon_at s (after_polygons s 14 i))) i

abbrev pub crossed : List ℕ → Ground → ℕ → List ℕ → List ℕ
crossed s g k = cross g.own (nav_portal_at s (g.portal_at + 11 * k))

-- the marks that some row of such steps leaves
pub data Worked (s : List ℕ) (g : Ground) (m : List ℕ) : List ℕ → Type 0 where
  same : Worked s g m m
  polygon : {m' : List ℕ} → Worked s g m m' → (i : ℕ) → i < length m → Worked s g m (visited s g i m')
  portal : {m' : List ℕ} → Worked s g m m' → (k : ℕ) → k < g.portals → Worked s g m (crossed s g k m')

-- and polygon i is not left over; nor is any that was seen before
pub record Left (s : List ℕ) (g : Ground) (i : ℕ) (m m' : List ℕ) : Type 0 where
  pub worked : Worked s g m m'
  pub done : get_or m' i 0 ≡ 2 → get_or m i 0 ≡ 0

pub record Swept (s : List ℕ) (g : Ground) (m m' : List ℕ) : Type 0 where
  pub worked : Worked s g m m'
  pub done : (k : ℕ) → get_or m' k 0 ≡ 2 → get_or m k 0 ≡ 0
