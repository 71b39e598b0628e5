-- `cell_grid::cell_entry` meets its contract: the words stored are those of the cell that the call answers.
use Rattle.cell_grid.proofs.cell_entry.Goals as goal

pub returns : goal.returns
returns c =
    record {
      number = c.accept.ensures.number;
      words = rw c.cell_for_position-c.ensures at c.accept.ensures.words;
    }
