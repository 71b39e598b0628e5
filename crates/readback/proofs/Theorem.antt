-- Writing and reading together: the pages of an accepted strip derive one strip, that of a cell with the same polygons but for what pages have no room
-- for. Whatever follows the pages, and whatever the graphics section. Assumes nothing.
use mathlib.Core.Path.{◌≡◌}
use mathlib.Core.List.{List, ◌++◌}
use Prim.Native.Nat.{ℕ}
use lib.ListN.{length}
use Rattle.strip.specs.Cell.{Cell, encode}
use Rattle.strip.specs.Fits.{Words, InRange}
use Rattle.strip.specs.Scan.{Scanned, scan}
use Rattle.strip.proofs.Exact.{scan_exact}
use Rattle.read_grammar.specs.Polygons.{Each}
use Rattle.read_grammar.specs.Derives.{Derives}
use Rattle.read_grammar.proofs.Unique.{makes_one, derives_one}
use Rattle.write_pages.specs.Preorder.{sector_count}
use Rattle.write_pages.specs.Pages.{sectors, pages}
use Rattle.write_pages.specs.Checks.{fine, cell_verdict}
use Rattle.write_pages.specs.Reread.{reread}
use Rattle.write_pages.specs.Accepted.{Accepted}
use Rattle.write_pages.proofs.Accepted.{accepted}
use Rattle.readback.specs.Kept.{PolygonKept}
use Rattle.readback.proofs.Kept.{reread_kept}
use Rattle.readback.proofs.Whole.{makes, derives}

-- a strip of 32-bit words that stands for the cell c, in which the writer's checks find nothing
module _ (strip : List ℕ) (c : Cell) (work out : ℕ) (words : Words strip) (formed : scan strip ≡ Scanned.ok c) (passed : cell_verdict (length strip) work out c ≡ fine)
    (tail graphics : List ℕ) where
  range : InRange c
  range = ((scan_exact strip words c).0 formed).0

  acc : Accepted c
  acc = ((accepted (length strip) work out c).0 passed).1

  -- its pages derive the strip of the cell as it is read again
  pub derived : Derives (pages c ++ tail) graphics (encode (reread c))
  derived = derives c tail graphics range acc

  -- and no other
  pub only : (w : List ℕ) → Derives (pages c ++ tail) graphics w → w ≡ encode (reread c)
  only w d = derives_one (pages c ++ tail) graphics d derived

  -- with as many sectors as were written
  pub sectors_kept : (w : List ℕ) (d : Derives (pages c ++ tail) graphics w) → d.sectors ≡ sector_count (sectors c)
  sectors_kept w d = (makes_one (pages c ++ tail) graphics d.makes (makes c tail graphics range acc)).0

  -- so whatever strip they derive has the same polygons, one by one, but for what pages have no room for
  pub polygons_kept : (w : List ℕ) → Derives (pages c ++ tail) graphics w → (d : Cell) × (w ≡ encode d) × Each PolygonKept c.polys d.polys
  polygons_kept w d = (reread c, only w d, reread_kept c)
