-- `read_replay::record_at` meets its contract: each place is the end that `end_of` gives of the part before it, padded or not, and by its bounds they stand in order.
use borrow.Author.Rules.{rules}
use Rattle.read_replay.proofs.record_at.Goals as goal

pub returns : goal.returns
returns c =
    record {
      places = cc;
      bound = search rules;
    }
