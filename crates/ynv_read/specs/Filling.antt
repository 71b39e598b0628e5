-- What filling is given: what was looked up, and that a cell was accepted which the strip has room for. Definitions only.
use Rattle.std.specs.Prelude.{ℕ, ◌≤◌, ◌≡◌, List, length}
use Rattle.strip.specs.Cell.{Cell, encode}
use Rattle.read_polygons.specs.Polygons.{limits_of}
use Rattle.read_polygons.specs.Passes.{Passed}
use Rattle.cell_record.specs.Record.{record_of}
use Rattle.cell_record.specs.declared.CellRecord.{CellRecord}
use Rattle.read_decide.specs.Reading.{made, header, head, source, polygons, read_cell}
use Rattle.read_decide.specs.Deciding.{ListsReady}

module _ (system graphics : List ℕ) where
  -- the header, and the cell's record
  pub record Given (h : List ℕ) (c : CellRecord) : Type 0 where
    pub header_is : h ≡ header system graphics
    pub cell_is : c ≡ record_of (head system graphics)

  -- polygons that passed have room behind the cell's record in n words
  abbrev pub PolysFit : ℕ → Type 0
  PolysFit n = Passed (limits_of (source system graphics)) (source system graphics).indices 0 (polygons system graphics) 14 n

  -- a cell was accepted, with so many polygons, and a strip of n words is long enough
  pub record Fillable (polys n : ℕ) : Type 0 where
    pub cell : Cell
    pub sectors : ℕ
    pub is : read_cell system graphics ≡ made cell sectors
    pub polys_are : polys ≡ length cell.polys
    pub room : length (encode cell) ≤ n
    pub ready : ListsReady system graphics
