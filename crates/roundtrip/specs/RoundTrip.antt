-- Writing and then reading: a strip is saved into lent pages, and these are read into a lent strip. What the two calls say and leave, one after the other.
-- Definitions only.
use Rattle.std.specs.Prelude.{ℕ, ◌%◌, ◌^◌, ◌≤◌, ◌<◌, ◌≡◌, List, ◌++◌, length, take, drop}
use Rattle.strip.specs.Cell.{NavPortal, NavPoint, Cell, encode}
use Rattle.strip.specs.Scan.{Scanned, scan}
use Rattle.strip.specs.Outcome.{Outcome, values, refusal, shown, left}
use Rattle.read_grammar.specs.Polygons.{Each}
use Rattle.read_decide.specs.declared.Parsed.{Parsed}
use Rattle.read_decide.specs.Answer.{counts_of}
use Rattle.ynv_read.specs.Parse.{parse_outcome}
use Rattle.write_pages.specs.Preorder.{sector_count, preorder}
use Rattle.write_pages.specs.Pages.{sectors, pages}
use Rattle.write_pages.specs.Reread.{reread}
use Rattle.readback.specs.Kept.{PolygonKept}
use Rattle.ynv_write.specs.declared.Written.{Written}
use Rattle.ynv_write.specs.Serialize.{serialize_outcome}

-- ---- the two calls

-- What writing a strip decides, with so many words of work, into lent pages that hold `old`.
module _ (strip : List ℕ) (work : ℕ) (old : List ℕ) where
  abbrev pub saving : Outcome Written
  saving = serialize_outcome strip work (length old)

  -- the lent pages when it returns, with whatever stands behind what was written
  abbrev pub saved_pages : List ℕ
  saved_pages = left saving old

  -- what a file holds of them: as many bytes as the writer says
  abbrev pub saved_file : Written → List ℕ
  saved_file v = take v.length saved_pages

-- What reading the pages decides, with any graphics section, into a lent strip; and that strip when it returns.
module _ (pages graphics lent : List ℕ) where
  abbrev pub opening : Outcome Parsed
  opening = parse_outcome pages graphics (length lent)

  abbrev pub opened_strip : List ℕ
  opened_strip = left opening lent

-- ---- what holds of them

-- the lent pages with those of a cell in front: the rest stays
abbrev pub with_pages : Cell → List ℕ → List ℕ
with_pages c old = pages c ++ drop (length (pages c)) old

-- Reading the pages that c was saved in, into a lent strip: one with room for the cell as it is read again gets its words and keeps the rest; a shorter
-- one is refused with 2; nothing else is ever said.
pub record Opened (c : Cell) (saved graphics lent : List ℕ) : Type 0 where
  pub counts_shown : length (encode (reread c)) ≤ length lent → shown (opening saved graphics lent) ≡ values (counts_of (reread c) (sector_count (sectors c)))
  pub words : length (encode (reread c)) ≤ length lent → opened_strip saved graphics lent ≡ encode (reread c) ++ drop (length (encode (reread c))) lent
  pub too_short : length lent < length (encode (reread c)) → shown (opening saved graphics lent) ≡ refusal 2 0
  pub no_other : (number place : ℕ) → shown (opening saved graphics lent) ≡ refusal number place → (number ≡ 2) × (place ≡ 0)

-- a portal p that was saved, read as q: areas are cut to their bits
pub record KeptPortal (p q : NavPortal) : Type 0 where
  pub kind : q.kind ≡ p.kind
  pub angle : q.angle ≡ p.angle
  pub flags_unk : q.flags_unk ≡ p.flags_unk
  pub poly_from : q.poly_from ≡ p.poly_from
  pub poly_to : q.poly_to ≡ p.poly_to
  pub area_from : q.area_from ≡ p.area_from % 2 ^ 14
  pub area_to : q.area_to ≡ p.area_to % 2 ^ 14
  pub area_unk : q.area_unk ≡ p.area_unk % 2 ^ 4

pub record KeptPoint (p q : NavPoint) : Type 0 where
  pub angle : q.angle ≡ p.angle
  pub kind : q.kind ≡ p.kind

-- Strip in, strip out: reading said p, and w are the words that it gave. They stand for a cell that has what c, which was saved, has to keep.
pub record Returned (c : Cell) (p : Parsed) (w : List ℕ) : Type 0 where
  pub cell : Cell
  pub formed : scan w ≡ Scanned.ok cell
  pub counts_are : p ≡ counts_of cell (sector_count (sectors c))
  -- content flags, area id, version, vft and box
  pub head : cell.head ≡ c.head
  -- every polygon in order, with flags, vertex count, links and edges
  pub polygons : Each PolygonKept c.polys cell.polys
  pub portals : Each KeptPortal c.portals cell.portals
  -- points leaf by leaf; one in no leaf is gone
  pub points : Each KeptPoint (preorder (sectors c)) cell.points
  -- and nothing is left open: positions are those of the grid of shorts
  pub cell_is : cell ≡ reread c
