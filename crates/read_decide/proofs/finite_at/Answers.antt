-- `finite_at` meets its contract: the three words are those of the vector that stands there.
use Rattle.read_grammar.specs.Derives.{vec_of}
use Rattle.read_decide.proofs.finite_at.Goals as goal

pub returns : goal.returns
unfolding vec_of
returns c = rw (← c.u32_le.ensures, ← c.u32_le-2.ensures, ← c.u32_le-3.ensures) c.finite_vec.ensures
