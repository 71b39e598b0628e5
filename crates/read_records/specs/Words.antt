-- Parts of the cell's record and of a portal's, as they are stored one after the other. Definitions only.
use Rattle.std.specs.Prelude.{ℕ, List, [], ◌∷◌}
use Rattle.fields.specs.Bytes.{le_at}
use Rattle.fields.specs.Rows.{pack, field}
use Rattle.strip.specs.Cell.{joined}
use Rattle.cell_record.specs.declared.CellRecord.{CellRecord}

-- kind, content flags, area id, version, vft
unfoldable pub value_words : CellRecord → List ℕ
value_words c = pack ((28, 0) ∷ (4, 1) ∷ []) ∷ c.content_flags ∷ c.area_id ∷ c.version_unk2 ∷ c.vft ∷ []

-- a portal's words before its positions, and those behind them
unfoldable pub front_words : List ℕ → List ℕ
front_words b = pack ((8, le_at 1 b 0) ∷ (8, le_at 1 b 1) ∷ (12, 0) ∷ (4, 3) ∷ []) ∷ le_at 2 b 2 ∷ []

unfoldable pub back_words : List ℕ → List ℕ
back_words b =
    joined (le_at 2 b 16) (le_at 2 b 20) ∷ joined (field 0 14 (le_at 4 b 24)) (field 14 14 (le_at 4 b 24)) ∷ field 28 4 (le_at 4 b 24) ∷ []
