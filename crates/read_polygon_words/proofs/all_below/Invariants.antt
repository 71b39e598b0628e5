-- `read_polygon_words::all_below` meets its contract. The loop's invariant: what is left is below exactly when all are.
use Prim.Native.Nat.{◌-◌, ◌*◌}
use mathlib.Core.Path.{◌≡◌}
use lib.ListN.{drop}
use Rattle.fields.specs.Bytes.{cut}
use Rattle.read_polygon_words.specs.Words.{all_below}
use Rattle.read_polygon_words.proofs.all_below.Given as goal

abbrev pub invariant-loop-k : goal.invariant-loop-k
invariant-loop-k l = all_below l.limit (cut 2 (l.n - l.k) (drop (2 * l.k) l.run)) ≡ all_below l.limit (cut 2 l.n l.run)
