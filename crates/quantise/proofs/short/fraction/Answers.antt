-- `quantise::short::fraction` meets its contract: the code is the definition. Assumes nothing.
use mathlib.Core.Path.{refl}
use Rattle.quantise.specs.Short.{fraction}
use Rattle.quantise.proofs.short.fraction.Goals as goal

pub returns : goal.returns
unfolding fraction
returns c = refl
