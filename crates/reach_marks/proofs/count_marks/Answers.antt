-- `reach_marks::count_marks` meets its contract: `marked` counts the marks that are not 0.
use Rattle.std.proofs.Common.{rules}
use Rattle.reach_marks.proofs.Turns.{marked_counts}
use Rattle.reach_marks.proofs.count_marks.Goals as goal

pub returns : goal.returns
returns c = search (rules, marked_counts)
