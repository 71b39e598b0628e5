-- What a walk starts from, and marks that no step changes any more, as it leaves them. Definitions only.
use Rattle.std.specs.Prelude.{ℕ, ◌+◌, ◌*◌, ◌≤◌, ◌<◌, ◌≡◌, List, length, get_or, set, replicate}
use Rattle.strip.specs.Reading.{word}
use Rattle.strip.specs.Rows.{after_polygons, portals_at}
use Rattle.reach_marks.specs.Step.{PortalLeads}
use Rattle.reach_marks.specs.Marks.{marked}
use Rattle.reach_walk.specs.Walk.{Worked}
use Rattle.reach_walk.specs.declared.Ground.{Ground}

-- a strip with n polygons, of which `start` is one, and so many portals from `at` on
pub record Ready (s : List ℕ) (at portals start n : ℕ) : Type 0 where
  pub head : 3 ≤ length s
  pub place : at ≡ after_polygons s 14 n
  pub inside : at + 11 * portals ≤ length s
  pub some : start < n

-- steps made m' of m; all that is seen has taken its steps, and its portals; and so many are seen
pub record Settled (s : List ℕ) (g : Ground) (m m' : List ℕ) (count : ℕ) : Type 0 where
  pub worked : Worked s g m m'
  pub done : (k : ℕ) → get_or m' k 0 ≡ 2 → ⊥
  pub crossed : (i j : ℕ) → PortalLeads g.own (portals_at s g.portal_at g.portals) i j → 1 ≤ get_or m' i 0 → j < length m' → 1 ≤ get_or m' j 0
  pub counted : count ≡ marked m'

-- the same from the start alone, of n polygons
pub record Walked (s : List ℕ) (at portals start n : ℕ) (m' : List ℕ) (count : ℕ) : Type 0 where
  pub stride : ℕ
  pub settled : Settled s (record { own = word s 2; stride = stride; portal_at = at; portals = portals }) (set (replicate n 0) start 2) m' count
