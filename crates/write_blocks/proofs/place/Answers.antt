-- `write_blocks::place` meets its contract: by the test on the end of the page, which is the one in the definition of the place.
use Rattle.std.proofs.Common.{◌+◌, ◌%◌, ◌≤◌, ◌<◌, arith, le-leb}
use borrow.Author.Tests.{lt-leb}
use Rattle.write_blocks.specs.Layout.{aligned, page_size, place_of}
use Rattle.write_blocks.proofs.place.Goals as goal

pub returns-then-at-size-le-PAGE_SIZE : goal.returns-then-at-size-le-PAGE_SIZE
unfolding place_of
returns-then-at-size-le-PAGE_SIZE c =
    let a = c.args in
    let h : aligned a.end % page_size + a.size ≤ page_size = omega arith in
    simp (le-leb _ _ h) (omega arith)

pub returns : goal.returns
unfolding place_of
returns c =
    let a = c.args in
    let h : page_size < aligned a.end % page_size + a.size = omega (arith, c.if-at-size-le-PAGE_SIZE.false) in
    simp (lt-leb _ _ h) (omega arith)
