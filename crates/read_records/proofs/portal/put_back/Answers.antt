-- `put_back` meets its contract. Areas are fields of their word.
use mathlib.Core.Path.{◌∙◌}
use Rattle.read_records.specs.Words.{back_words}
use Rattle.read_records.proofs.Stores.{area_from, area_to, area_unk}
use borrow.Author.Rules.{rules}
use Rattle.read_records.proofs.portal.put_back.Goals as goal

pub returns : goal.returns
unfolding back_words
returns c = c.put_words.ensures ∙ rw (area_from c.u32_le-areas.result, area_to c.u32_le-areas.result, area_unk c.u32_le-areas.result (search rules), c.from-poly_from.ensures, c.from-poly_to.ensures, c.u16_le.ensures, c.u16_le-2.ensures, c.u32_le-areas.ensures)
