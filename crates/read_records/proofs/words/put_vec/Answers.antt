-- `put_vec` meets its contract. The three words are the floats' bits.
use mathlib.Core.Path.{◌∙◌}
use Rattle.strip.specs.Cell.{vec_words}
use Rattle.read_records.proofs.words.put_vec.Goals as goal

pub returns : goal.returns
unfolding vec_words
returns c = c.put_words.ensures ∙ rw (c.bits_of_float-x.ensures, c.bits_of_float-y.ensures, c.bits_of_float-z.ensures)
