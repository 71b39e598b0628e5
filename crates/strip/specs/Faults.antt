-- Where a badly formed strip is bad: its records are good up to one that is not, and the place is one of three. Definitions only.
use Rattle.std.specs.Prelude.{ℕ, ◌+◌, ◌<◌, ◌≡◌, List, length, Ok, Err}
use Rattle.strip.specs.Reading.{word}
use Rattle.strip.specs.Scan.{kind_of, polygon_rank, cell_rank, portal_rank, point_rank, record_at}
use Rattle.strip.specs.declared.Record.{Record}
use Rattle.strip.specs.declared.Record.TheVariants.{Cell as IsCell, Polygon as IsPolygon, Portal as IsPortal, Point as IsPoint, End as IsEnd}

-- where a strip is bad: at the first word of the bad record; at its length, if it ends early or lacks its end; at the first word after the end
pub data Place (s : List ℕ) (at : ℕ) : ℕ → Type 0 where
  here : at < length s → Place s at at
  short : Place s at (length s)
  more : kind_of (word s at) ≡ 5 → at + 1 < length s → Place s at (at + 1)

-- a good record after which others come
abbrev pub Goes : Record → Type 0
Goes IsCell = Unit
Goes (IsPolygon p) = Unit
Goes IsPortal = Unit
Goes IsPoint = Unit
Goes IsEnd = ⊥

-- where a good record ends, and its rank
abbrev pub next_of : ℕ → Record → ℕ
next_of at IsCell = at + 14
next_of at (IsPolygon p) = p.next
next_of at IsPortal = at + 11
next_of at IsPoint = at + 4
next_of at IsEnd = at + 1

abbrev pub rank_of : Record → ℕ
rank_of IsCell = cell_rank
rank_of (IsPolygon p) = polygon_rank
rank_of IsPortal = portal_rank
rank_of IsPoint = point_rank
rank_of IsEnd = 6

-- the positions that good records lead to from the strip's start, with the rank of the last of them
pub data Reached (s : List ℕ) : ℕ → ℕ → Type 0 where
  start : Reached s 0 0
  step : {at rank : ℕ} → Reached s at rank → (r : Record) → record_at s at rank ≡ Ok r → Goes r → Reached s (next_of at r) (rank_of r)

-- the first record that is not good, and its place
pub record Fault (s : List ℕ) (place : ℕ) : Type 0 where
  pub at : ℕ
  pub rank : ℕ
  pub reached : Reached s at rank
  pub found : record_at s at rank ≡ Err place
  pub named : Place s at place

-- A strip that is refused with a number, and its place: 3 for the first bad record. Calls cite this one statement and not its case, so that
-- another number of strips would be another case here and nothing there.
pub data Refused (s : List ℕ) : ℕ → ℕ → Type 0 where
  badly_formed : {place : ℕ} → Fault s place → Refused s 3 place
