-- `read_lists::seek` meets its contract: a cursor whose part holds the item stays as it is, and otherwise `walk_to` finds its part.
use native.Mathlib.Omega.{arith}
use Rattle.read_lists.proofs.Lists.{inside_of}
use Rattle.read_lists.proofs.seek.Goals as goal

pub returns-then-i-from : goal.returns-then-i-from
returns-then-i-from c =
    let (s, l, few) = c.requires in
    let lo = c.if-from-i.true in
    record { stands = s; inside = inside_of s lo l; low = lo; high = omega arith }
