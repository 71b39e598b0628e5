-- What the record of a head holds, field by field; and on a finite box, the head back from it.
use Prim.Native.Nat.{ℕ, ◌^◌, ◌<◌}
use mathlib.Core.Path.{◌≡◌, ap, ◌∙◌}
use mathlib.Core.Bool.{true}
use mathlib.Core.List.{List}
use Rattle.strip.specs.Cell.{Head}
use Rattle.strip.specs.Box.{finite_box}
use Rattle.strip.specs.Reading.{word, head_at}
use Rattle.strip.proofs.Box.{box_finite}
use Rattle.cell_record.specs.Record.{record_of, head_by, root_in}
use Rattle.cell_record.specs.Floats.{floats}
use Rattle.cell_record.specs.declared.CellRecord.{CellRecord}
use Rattle.cell_record.specs.Words.{WordBox}
use Rattle.cell_record.proofs.Back.{head_back}

module _ (h : Head) (r : CellRecord) (e : r ≡ record_of h) where
  pub flags_are : r.content_flags ≡ h.content
  unfolding record_of
  flags_are = ap (λ (x : CellRecord). x.content_flags) e

  pub area_is : r.area_id ≡ h.area
  unfolding record_of
  area_is = ap (λ (x : CellRecord). x.area_id) e

  pub min_is : r.bb_min ≡ floats h.bb_min
  unfolding record_of
  min_is = ap (λ (x : CellRecord). x.bb_min) e

  pub size_is : r.bb_size ≡ floats h.bb_size
  unfolding record_of
  size_is = ap (λ (x : CellRecord). x.bb_size) e

  pub root_is : root_in r ≡ record { min = floats h.bb_min; max = floats h.bb_max }
  unfolding record_of
  root_is = ap root_in e

  pub head_is : WordBox h → finite_box h ≡ true → head_by r ≡ h
  head_is w f = ap head_by e ∙ head_back h w (box_finite h f)

-- a strip's words are words
pub word_box : (s : List ℕ) → ((k : ℕ) → word s k < 2 ^ 32) → WordBox (head_at s 0)
unfolding head_at
word_box s w = record {
  bb_min = record { x = w 5; y = w 6; z = w 7 };
  bb_max = record { x = w 8; y = w 9; z = w 10 };
  bb_size = record { x = w 11; y = w 12; z = w 13 };
}
