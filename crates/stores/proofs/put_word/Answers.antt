-- `stores::put_word` meets its contract: two bytes see no more than 16 bits.
use Rattle.fields.proofs.Bytes.{bytes_mod}
use Rattle.stores.proofs.put_word.Goals as goal

pub returns-in-4 : goal.returns-in-4
returns-in-4 c = rw c.in-4.is c.put_u32.ensures

pub returns-in-2 : goal.returns-in-2
returns-in-2 c = rw (c.in-2.is, ← bytes_mod 2) c.put_u16.ensures

pub returns-in_default : goal.returns-in_default
returns-in_default c = rw c.from.ensures at c.put_le.ensures
