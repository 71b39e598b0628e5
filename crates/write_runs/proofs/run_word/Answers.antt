-- `write_runs::run_word` meets its contract: `u32_le` gives the word that is given; the test tells the one that grows, and `omega` compares its sum however it is written.
use Prim.Native.Nat.{◌/◌}
use native.Mathlib.Nat.{mod-lt, div-le_self}
use native.Mathlib.Omega.{arith}
use lib.ListN.{length}
use Rattle.write_runs.proofs.Made.{word_grown, word_given}
use Rattle.write_runs.proofs.run_word.Goals as goal

pub overflow_mul-i : goal.overflow_mul-i
overflow_mul-i c = omega (arith, mod-lt c.args.k {m = length c.args.words.now / 4} (omega arith))

pub overflow_mul-result : goal.overflow_mul-result
overflow_mul-result c = let a = c.args in omega (arith, div-le_self a.k (length a.words.now / 4))

pub overflow_add-result : goal.overflow_add-result
overflow_add-result c = let a = c.args in omega (arith, div-le_self a.k (length a.words.now / 4))

pub returns-then-i-grows : goal.returns-then-i-grows
returns-then-i-grows c = word_grown _ _ _ _ c.if-i-grows.true c.u32_le-word.ensures (omega arith)

pub returns : goal.returns
returns c = word_given _ _ _ _ c.if-i-grows.false c.u32_le-word.ensures
