-- `read_lists::back_to` meets its contract. The loop's invariant: the cursor stands at a part. The measure is that part's number.
use native.Mathlib.Omega.{arith}
use Rattle.read_lists.specs.Lists.{count_at}
use Rattle.read_lists.proofs.Lists.{back}
use Rattle.read_lists.proofs.back_to.Goals as goal

pub overflow_sub-k : goal.overflow_sub-k
overflow_sub-k c = (back c.loop-c.invariant c.loop-c-test.true).0

pub overflow_sub-c : goal.overflow_sub-c
unfolding count_at
overflow_sub-c c = omega (arith, (back c.loop-c.invariant c.loop-c-test.true).1, c.u32_le-count.ensures)

pub cursor_at-c-requires : goal.cursor_at-c-requires
unfolding count_at
cursor_at-c-requires c =
    let (some, first) = back c.loop-c.invariant c.loop-c-test.true in
    (omega (arith, some, c.loop-c.invariant.inside), omega (arith, first, c.u32_le-count.ensures))

pub loop-c-smaller : goal.loop-c-smaller
loop-c-smaller c = omega (arith, (back c.loop-c.invariant c.loop-c-test.true).0, c.cursor_at-c.ensures.part)
