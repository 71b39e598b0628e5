-- `write_corner_checks::area_at` meets its contract: the test is the definition's own, and the word is asked for only where the edge is there.
use native.Mathlib.Omega.{arith}
use borrow.Author.Tests.{lt-ltb, le-ltb}
use Rattle.write_corner_checks.specs.Steps.{area_or}
use Rattle.write_corner_checks.proofs.area_at.Goals as goal

pub offset_bounds-strip-at : goal.offset_bounds-strip-at
offset_bounds-strip-at c = omega (arith, c.requires c.if-i-edges.true)

pub bounds-strip-at : goal.bounds-strip-at
bounds-strip-at c = omega (arith, c.requires c.if-i-edges.true)

pub returns-then-i-edges : goal.returns-then-i-edges
unfolding area_or
returns-then-i-edges c = rw (lt-ltb _ _ c.if-i-edges.true)

pub returns : goal.returns
unfolding area_or
returns c = rw (le-ltb _ _ c.if-i-edges.false)
