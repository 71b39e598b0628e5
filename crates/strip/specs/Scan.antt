-- Which strips are well formed, what cell such a strip stands for, and where another one is bad (refusal 3's place). Definitions only.
use Rattle.std.specs.Prelude.{ℕ, zero, suc, ◌+◌, ◌-◌, ◌/◌, ◌^◌, List, [], ◌∷◌, Bool, true, cond, ◌&&◌, length, ltb, leb, Result, Ok, Err}
use Rattle.fields.specs.Rows.{field}
use Rattle.strip.specs.Cell.{Cell, Head, NavPoly, NavPortal, NavPoint}
use Rattle.strip.specs.Reading.{word, poly_at, polygon_at, nav_portal_at, point_at, head_at}
use Rattle.strip.specs.declared.Poly.{Poly}
use Rattle.strip.specs.declared.Record.{Record}
use Rattle.strip.specs.declared.Record.TheVariants.{Cell as IsCell, Polygon as IsPolygon, Portal as IsPortal, Point as IsPoint, End as IsEnd}

-- the top 4 of a word's 32 bits
abbrev pub kind_of : ℕ → ℕ
kind_of w = w / 2 ^ 28

-- Records have ranks, and the strip's start has rank 0. Those that a record may follow are a row of ranks: polygons follow the cell or their
-- like, portals all but points and the start, points and the end all but the start. So polygons stand on one side of the cell, and rank 3, on its
-- other side, is for a second kind of them, which follows the cell and its own like (2 to 3) and never the first kind.
abbrev pub polygon_rank : ℕ
polygon_rank = 1

abbrev pub cell_rank : ℕ
cell_rank = 2

abbrev pub portal_rank : ℕ
portal_rank = 4

abbrev pub point_rank : ℕ
point_rank = 5

-- A record's first word is good after a record of rank low to high, with the bits between its named ones and its kind zero: the 28 bits below
-- the kind are a number below a limit.
unfoldable pub first_good : ℕ → ℕ → ℕ → ℕ → ℕ → Bool
first_good low high limit rank w = leb low rank && (leb rank high && ltb (field 0 28 w) limit)

-- n words from a position on are below a limit
unfoldable pub all_below : List ℕ → ℕ → ℕ → ℕ → Bool
all_below s at zero limit = true
all_below s at (suc n) limit = ltb (word s at) limit && all_below s (at + 1) n limit

-- n edges from a position on have no unnamed bit: the third word of each half has 24 bits
unfoldable pub edges_fit : List ℕ → ℕ → ℕ → Bool
edges_fit s at zero = true
edges_fit s at (suc n) = ltb (word s (at + 2)) (2 ^ 24) && (ltb (word s (at + 5)) (2 ^ 24) && edges_fit s (at + 6) n)

-- flags0, links and edges
unfoldable pub poly_fits : List ℕ → Poly → Bool
poly_fits s p =
    ltb (word s p.flags_at) (2 ^ 16) && (all_below s p.link_at p.links (2 ^ 16) && edges_fit s p.edge_at p.edges)

-- flags_unk and area_unk
unfoldable pub portal_fits : List ℕ → ℕ → Bool
portal_fits s at = ltb (word s (at + 1)) (2 ^ 16) && ltb (word s (at + 10)) (2 ^ 8)

-- what is read at a position is a good record, or the place where the strip is bad: r where a test passes, and otherwise a place
abbrev pub check : Bool → ℕ → Result Record ℕ → Result Record ℕ
check test place r = cond test r (Err place)

-- A record's first word is judged, then whether all its words are there, then the rest.
abbrev pub judge : List ℕ → ℕ → Bool → ℕ → Bool → Record → Result Record ℕ
judge s at first next rest r = check first at (check (leb next (length s)) (length s) (check rest at (Ok r)))

unfoldable pub cell_record : List ℕ → ℕ → ℕ → Result Record ℕ
cell_record s at rank = judge s at (first_good 0 0 (2 ^ 0) rank (word s at)) (at + 14) true IsCell

unfoldable pub polygon_record : List ℕ → ℕ → ℕ → Result Record ℕ
polygon_record s at rank =
    judge s at (first_good polygon_rank cell_rank (2 ^ 28) rank (word s at)) (poly_at s at).next (poly_fits s (poly_at s at)) (IsPolygon (poly_at s at))

unfoldable pub portal_record : List ℕ → ℕ → ℕ → Result Record ℕ
portal_record s at rank = judge s at (first_good polygon_rank portal_rank (2 ^ 16) rank (word s at)) (at + 11) (portal_fits s at) IsPortal

unfoldable pub point_record : List ℕ → ℕ → ℕ → Result Record ℕ
point_record s at rank = judge s at (first_good polygon_rank point_rank (2 ^ 16) rank (word s at)) (at + 4) true IsPoint

-- the end is the last word
unfoldable pub end_record : List ℕ → ℕ → ℕ → Result Record ℕ
end_record s at rank = check (first_good polygon_rank point_rank (2 ^ 0) rank (word s at)) at (check (leb (length s) (at + 1)) (at + 1) (Ok IsEnd))

unfoldable pub record_of : ℕ → List ℕ → ℕ → ℕ → Result Record ℕ
record_of zero s at rank = Err at
record_of (suc zero) s at rank = cell_record s at rank
record_of (suc (suc zero)) s at rank = polygon_record s at rank
record_of (suc (suc (suc zero))) s at rank = portal_record s at rank
record_of (suc (suc (suc (suc zero)))) s at rank = point_record s at rank
record_of (suc (suc (suc (suc (suc zero))))) s at rank = end_record s at rank
record_of (suc (suc (suc (suc (suc (suc k)))))) s at rank = Err at

-- the record at a position, after one of a rank; a strip with no word there lacks its end
unfoldable pub record_at : List ℕ → ℕ → ℕ → Result Record ℕ
record_at s at rank = check (ltb at (length s)) (length s) (record_of (kind_of (word s at)) s at rank)

-- the records after the cell's: their lists, or the place where the strip is bad
pub data Rest : Type 0 where
  good : List NavPoly → List NavPortal → List NavPoint → Rest
  bad : ℕ → Rest

-- the cell of a well-formed strip, or a refusal's number and place
pub data Scanned : Type 0 where
  ok : Cell → Scanned
  fault : ℕ → ℕ → Scanned

abbrev pub with_polygon : NavPoly → Rest → Rest
with_polygon p (good ps qs ts) = good (p ∷ ps) qs ts
with_polygon p (bad place) = bad place

abbrev pub with_portal : NavPortal → Rest → Rest
with_portal q (good ps qs ts) = good ps (q ∷ qs) ts
with_portal q (bad place) = bad place

abbrev pub with_point : NavPoint → Rest → Rest
with_point t (good ps qs ts) = good ps qs (t ∷ ts)
with_point t (bad place) = bad place

abbrev pub with_head : Head → Rest → Scanned
with_head h (good ps qs ts) = ok (record { head = h; polys = ps; portals = qs; points = ts })
with_head h (bad place) = fault 3 place

-- The records from a position on, after one of a rank. A record has a word or more, so that one turn more than there are words left is
-- enough (`rest_step`, in proofs/Judged.antt, is the law without the turns).
abbrev pub on_record : Result Record ℕ → (ℕ → ℕ → Rest) → List ℕ → ℕ → Rest
on_record (Ok IsCell) go s at = go (at + 14) cell_rank
on_record (Ok (IsPolygon p)) go s at = with_polygon (polygon_at s at) (go p.next polygon_rank)
on_record (Ok IsPortal) go s at = with_portal (nav_portal_at s at) (go (at + 11) portal_rank)
on_record (Ok IsPoint) go s at = with_point (point_at s at) (go (at + 4) point_rank)
on_record (Ok IsEnd) go s at = good [] [] []
on_record (Err place) go s at = bad place

unfoldable pub rest_from : ℕ → List ℕ → ℕ → ℕ → Rest
rest_from zero s at rank = bad at
rest_from (suc turns) s at rank = on_record (record_at s at rank) (rest_from turns s) s at

unfoldable pub rest_at : List ℕ → ℕ → ℕ → Rest
rest_at s at rank = rest_from (suc (length s - at)) s at rank

-- the cell's record is the first, and no other is a cell
unfoldable pub scan : List ℕ → Scanned
scan s = with_head (head_at s 0) (rest_at s 0 0)
