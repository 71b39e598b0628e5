-- `put_front` meets its contract. The first word is a row of bits.
use mathlib.Core.Path.{◌∙◌}
use Rattle.read_records.specs.Words.{front_words}
use Rattle.read_records.proofs.Stores.{portal_first}
use borrow.Author.Rules.{rules}
use Rattle.read_records.proofs.portal.put_front.Goals as goal

pub returns : goal.returns
unfolding front_words
returns c =
    c.put_words.ensures
    ∙ rw (portal_first c.from-kind.result c.from-angle.result (search rules) (search rules), c.from-kind.ensures, c.from-angle.ensures, c.from-flags_unk.ensures, c.u8_le.ensures, c.u8_le-2.ensures, c.u16_le.ensures)
