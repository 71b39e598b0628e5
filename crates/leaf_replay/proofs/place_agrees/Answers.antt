-- `leaf_replay::place_agrees` meets its contract: the test says that the place of `leaf_place` is the number of the two words out, and both sides are what the definitions name.
use Prim.Native.Nat.{◌+◌, ◌*◌}
use borrow.Author.Tests.{eqb-true}
use Rattle.leaf_replay.proofs.place_agrees.Goals as goal

pub returns : goal.returns
returns c = λ h. cc (eqb-true c.leaf_place-place.result (c.word-3.result + 0x1_0000_0000 * c.word-4.result) h)
