-- `nobody::nobody` meets its contract: the poly is cut, and held against 16383.
use native.Mathlib.Omega.{arith}
use Rattle.nobody.proofs.Tests.{nobody_is}
use Rattle.nobody.proofs.nobody.Goals as goal

pub returns : goal.returns
returns c = nobody_is _ _ _ c.cut.ensures (omega arith)
