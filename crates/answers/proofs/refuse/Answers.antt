-- `answers::refuse` meets its contract: the number is returned, and the place stands in the first word by `stored_first`.
use mathlib.Core.List.{[], ◌∷◌}
use Rattle.answers.proofs.Stores.{stored_first}
use Rattle.answers.proofs.refuse.Goals as goal

pub returns-clause-words : goal.returns-clause-words
returns-clause-words c = stored_first (c.args.place ∷ []) c.args.answer.now
