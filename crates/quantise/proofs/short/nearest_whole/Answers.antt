-- `nearest_whole` meets its contract: half of what makes a whole is added before the rest is cut off.
use native.Mathlib.Omega.{arith}
use Rattle.quantise.proofs.short.nearest_whole.Goals as goal

pub returns : goal.returns
returns c = omega arith
