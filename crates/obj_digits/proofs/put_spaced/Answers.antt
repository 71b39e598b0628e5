-- `obj_digits::put_spaced` meets its contract: the digits are stored behind the space.
use Rattle.decimal.specs.Text.{ascii}
use Rattle.decimal.proofs.Stored.{stored_then, byte}
use Rattle.obj_digits.proofs.put_spaced.Goals as goal

pub returns : goal.returns
unfolding ascii
returns c = stored_then byte c.put_digits.ensures
