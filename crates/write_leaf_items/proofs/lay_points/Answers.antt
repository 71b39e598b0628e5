-- `write_leaf_items::lay_points` meets its contract: zeros up to the place, then the points that have the leaf, if there is one. Assumes nothing.
use mathlib.Core.Path.{sym, ap, ◌∙◌}
use Prim.Native.Nat.{ℕ, ◌*◌}
use native.Mathlib.Omega.{arith}
use lib.ListN.{length}
use Rattle.write_blocks.proofs.Optional.{behind_some, laid_nothing, laid_some}
use Rattle.fields.specs.Bytes.{cat}
use Rattle.strip.specs.Rows.{points_at}
use Rattle.write_pages.specs.Sectors.{point_items}
use Rattle.write_pages.proofs.Sizes.{length_points}
use Rattle.write_leaf_counts.specs.Work.{picked_from}
use Rattle.write_leaf_items.proofs.lay_points.Goals as goal

pub returns-then-n-eq0 : goal.returns-then-n-eq0
returns-then-n-eq0 c =
    let a = c.args in
    let ts = picked_from a.leaf_numbers.now a.k 0 (points_at a.strip.now a.points.at (length a.leaf_numbers.now)) in
    laid_nothing a.l (cat (point_items a.points.frame.bb_min a.points.frame.bb_size ts)) a.out.now (omega (arith, length_points a.points.frame.bb_min a.points.frame.bb_size ts, c.requires.1, c.if-n-eq0.true))

pub overflow_mul-n : goal.overflow_mul-n
overflow_mul-n c = omega (arith, c.requires.2)

pub pad-at-requires : goal.pad-at-requires
pad-at-requires c = omega (arith, behind_some c.args.l.at (8 * c.args.n) (omega (arith, c.if-n-eq0.false)), c.requires.3)

pub put_points-requires : goal.put_points-requires
put_points-requires c = (c.requires.0, omega (arith, behind_some c.args.l.at (8 * c.args.n) (omega (arith, c.if-n-eq0.false)), c.requires.1, c.requires.3, c.pad-at.ensures.start))

pub overflow_mul-n-2 : goal.overflow_mul-n-2
overflow_mul-n-2 c = omega (arith, c.requires.2)

pub alloc-requires : goal.alloc-requires
alloc-requires c = omega (arith, behind_some c.args.l.at (8 * c.args.n) (omega (arith, c.if-n-eq0.false)), c.requires.3)

pub returns : goal.returns
returns c =
    let a = c.args in
    let ts = picked_from a.leaf_numbers.now a.k 0 (points_at a.strip.now a.points.at (length a.leaf_numbers.now)) in
    laid_some (cat (point_items a.points.frame.bb_min a.points.frame.bb_size ts)) (length_points a.points.frame.bb_min a.points.frame.bb_size ts ∙ ap (λ (j : ℕ). 8 * j) (sym c.requires.1)) (omega (arith, c.if-n-eq0.false)) c.pad-at.ensures.start c.pad-at.ensures.out c.put_points.ensures c.alloc.ensures
