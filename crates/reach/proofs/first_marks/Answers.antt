-- `reach::first_marks` meets its contract: one mark among cleared ones.
use Prim.Native.Nat.{ℕ}
use lib.ListN.{set}
use mathlib.Core.List.{List}
use mathlib.Core.Path.{ap}
use Rattle.reach.proofs.first_marks.Goals as goal

pub returns : goal.returns
returns c = ap (λ (m : List ℕ). set m c.args.start 2) c.clear.ensures
