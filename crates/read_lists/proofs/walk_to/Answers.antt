-- `read_lists::walk_to` meets its contract. The loop's invariant: the cursor stands at a part that doesn't begin behind item i. The measure is what is left of the table.
use native.Mathlib.Omega.{arith}
use Rattle.read_lists.proofs.Lists.{next, within, forth, inside_of}
use Rattle.read_lists.proofs.walk_to.Goals as goal

pub overflow_add-c : goal.overflow_add-c
overflow_add-c c =
    let (s, lo) = c.loop-c.invariant in
    omega (arith, within s (inside_of s lo c.requires.1), c.requires)

pub cursor_at-c-requires : goal.cursor_at-c-requires
cursor_at-c-requires c = let (s, lo) = c.loop-c.invariant in (omega (arith, forth s lo (omega (arith, c.loop-c-test.true)) c.requires.1), omega (arith, next s))

pub loop-c-smaller : goal.loop-c-smaller
loop-c-smaller c = let (s, lo) = c.loop-c.invariant in omega (arith, forth s lo (omega (arith, c.loop-c-test.true)) c.requires.1, c.cursor_at-c.ensures.part)

pub returns : goal.returns
returns c = let (s, lo) = c.loop-c.invariant in record { stands = s; inside = inside_of s lo c.requires.1; low = lo; high = omega arith }
