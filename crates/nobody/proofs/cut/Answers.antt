-- `nobody::cut` meets its contract, by arithmetic.
use native.Mathlib.Omega.{arith}
use Rattle.nobody.proofs.Tests.{cut_is}
use Rattle.nobody.proofs.cut.Goals as goal

pub returns : goal.returns
returns c = cut_is _ _ (omega arith)
