-- `stores::put_u8` meets its contract: a run of one byte is one store.
use mathlib.Core.Path.{sym}
use native.Mathlib.Nat.{mod-eq_of_lt}
use Rattle.fields.specs.Bytes.{le_bytes}
use Rattle.fields.proofs.Puts.{past_end, put_one}
use Rattle.stores.proofs.put_u8.Goals as goal

pub returns-then-off-b : goal.returns-then-off-b
unfolding le_bytes
returns-then-off-b c = rw (mod-eq_of_lt c.ranges.v.fits) (sym (put_one _ _ _))

pub returns-else-off-b : goal.returns-else-off-b
returns-else-off-b c = sym (past_end _ _ _ c.if-off-b.false)
