-- `write_edges::half_item` meets its contract: where the edge is there its fields, otherwise those of NONE.
use mathlib.Core.Path.{◌∙◌}
use native.Mathlib.Omega.{arith}
use borrow.Author.Tests.{lt-ltb, le-ltb}
use Rattle.write_edges.proofs.Halves.{half_cut}
use Rattle.write_edges.proofs.half_item.Goals as goal

pub overflow_add-last : goal.overflow_add-last
overflow_add-last c = omega (arith, c.requires c.if-i-edges.true, c.well_formed)

pub offset_bounds-strip-at : goal.offset_bounds-strip-at
offset_bounds-strip-at c = omega (arith, c.requires c.if-i-edges.true, c.well_formed)

pub bounds-strip-at : goal.bounds-strip-at
bounds-strip-at c = omega (arith, c.requires c.if-i-edges.true, c.well_formed)

pub offset_bounds-strip-at-then-i-edges : goal.offset_bounds-strip-at-then-i-edges
offset_bounds-strip-at-then-i-edges c = omega (arith, c.requires c.if-i-edges.true, c.well_formed)

pub bounds-strip-at-then-i-edges : goal.bounds-strip-at-then-i-edges
bounds-strip-at-then-i-edges c = omega (arith, c.requires c.if-i-edges.true, c.well_formed)

pub overflow_add-at : goal.overflow_add-at
overflow_add-at c = omega (arith, c.requires c.if-i-edges.true, c.well_formed)

pub offset_bounds-strip-at-then-i-edges-2 : goal.offset_bounds-strip-at-then-i-edges-2
offset_bounds-strip-at-then-i-edges-2 c = omega (arith, c.requires c.if-i-edges.true, c.well_formed)

pub bounds-strip-at-then-i-edges-2 : goal.bounds-strip-at-then-i-edges-2
bounds-strip-at-then-i-edges-2 c = omega (arith, c.requires c.if-i-edges.true, c.well_formed)

pub returns-then-i-edges : goal.returns-then-i-edges
returns-then-i-edges c = c.half_word.ensures ∙ (rw (c.index_bits-index.ensures, lt-ltb _ _ c.if-i-edges.true) (half_cut _ _ _ _))

pub returns : goal.returns
returns c = c.half_word-2.ensures ∙ (rw (c.index_bits-index-2.ensures, le-ltb _ _ c.if-i-edges.false) (half_cut _ _ _ _))
