-- The cell's record: what shorts are turned back by, and the words of its head. Assumes nothing.
use Prim.Native.Nat.{ℕ, ◌+◌}
use mathlib.Core.Path.{◌≡◌, ap, ◌∙◌}
use mathlib.Core.Bool.{true}
use mathlib.Core.List.{List}
use Rattle.strip.specs.Box.{finite_box}
use Rattle.read_grammar.specs.Derives.{vec_of, head_of, axis, back_of}
use Rattle.fields.proofs.Bytes.{le_lt}
use Rattle.strip.proofs.Box.{box_finite}
use Rattle.cell_record.specs.Record.{record_of, head_by}
use Rattle.cell_record.specs.declared.CellRecord.{CellRecord}
use Rattle.cell_record.specs.Words.{WordVec, WordBox}
use Rattle.cell_record.proofs.Back.{head_back}
use Rattle.read_grammar.specs.Formed.{Bytes}
use Rattle.read_records.specs.Back.{back_by, back_in}
use Rattle.read_decide.specs.Deciding.{HeaderRoot}
use Rattle.ynv_read.specs.Filling.{Given}
use Rattle.read_decide.specs.Reading.{header, root, head}

-- header and root are of bytes, so the box is of words
word_vec : (b : List ℕ) (off : ℕ) → Bytes b → WordVec (vec_of b off)
unfolding vec_of
word_vec b off h = record { x = le_lt 4 b off h; y = le_lt 4 b (off + 4) h; z = le_lt 4 b (off + 8) h }

word_box : (S G : List ℕ) → Bytes (header S G) → Bytes (root S G) → WordBox (head S G)
unfolding head head_of
word_box S G h r =
    record { bb_min = word_vec (root S G) 0 r; bb_max = word_vec (root S G) 16 r; bb_size = word_vec (header S G) 0x60 h }

-- the cell's record holds its box: shorts are turned back in it, and the words of its head are the bits of its floats, since they are finite
module _ (S G : List ℕ) {c : CellRecord} (e : c ≡ record_of (head S G)) where
  pub back_is : back_in c ≡ back_of (head S G)
  unfolding record_of back_by back_of axis
  back_is = ap back_in e

  pub head_is : Bytes (header S G) → Bytes (root S G) → finite_box (head S G) ≡ true → head_by c ≡ head S G
  head_is h r f = ap head_by e ∙ head_back (head S G) (word_box S G h r) (box_finite (head S G) f)

-- what filling is given, by what was looked up
pub cell_of : (S G : List ℕ) {h r : List ℕ} {c : CellRecord} → HeaderRoot S G h r → c ≡ record_of (head_of h r) → Given S G h c
unfolding head
cell_of S G k e = record { header_is = k.header_is; cell_is = e ∙ rw (k.header_is, k.root_is) }
