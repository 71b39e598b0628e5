-- `touching::touch` meets its contract: an own id of the grid touches in its row or in its column, another one nothing.
use borrow.Author.Tests.{le-ltb}
use native.Mathlib.Omega.{arith}
use Rattle.touching.proofs.Touches.{outside_own, either_way}
use Rattle.touching.proofs.touch.Goals as goal

pub returns-then-own-lt10000 : goal.returns-then-own-lt10000
returns-then-own-lt10000 c = rw (c.beside_in_row.ensures, c.beside_in_column.ensures) (either_way _ _ (omega arith))

pub returns-else-own-lt10000 : goal.returns-else-own-lt10000
returns-else-own-lt10000 c = rw (le-ltb c.args.own 10000 (omega arith)) (outside_own _ _ (omega arith))
