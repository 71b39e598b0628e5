-- The half of an edge read back from its word. Definitions only.
use Rattle.std.specs.Prelude.{ℕ}
use Rattle.fields.specs.Rows.{field}
use Rattle.areas.specs.declared.edge.RawEnd.{RawEnd}
use Rattle.areas.specs.EdgeHalf.{half_word, adjacent_none}

-- NONE, where the area ADJACENT-NONE has this index: unk2 and unk3 are zero
abbrev pub none_word : ℕ → ℕ
none_word index = half_word index adjacent_none 0 0

-- the fields of a word
abbrev pub decoded_end : ℕ → RawEnd
decoded_end raw = record { index = field 0 5 raw; poly = field 5 14 raw; unk2 = field 19 2 raw; unk3 = field 21 11 raw }
