-- `areas::ensure_area` meets its contract: `ensure_id` on the table's array.
use Rattle.areas.proofs.ensure_area.Goals as goal

pub returns : goal.returns
returns c =
    record {
      answer = c.ensure_id-e.ensures.answer.answer;
      table = rw (c.areas_of.ensures, c.ensure_id-e.ensures.answer.len_is, c.ensure_id-e.ensures.table);
    }
