-- `write_quadtree::boxes::leaf_in` meets its contract: the leaves of the four subs in turn: the first that holds the point (`first_within`), behind those of the subs passed (`first_past`).
use mathlib.Core.Path.{refl}
use native.Mathlib.Omega.{arith}
use Rattle.write_quadtree.proofs.Placing.{first_within, first_past}
use Rattle.write_quadtree.proofs.boxes.leaf_in.Goals as goal

pub returns-then-s0-lt4 : goal.returns-then-s0-lt4
returns-then-s0-lt4 c = first_within _ _ c.sub_of-s0.ensures.sub c.if-s0-lt4.true

pub returns-then-s1-lt4 : goal.returns-then-s1-lt4
returns-then-s1-lt4 c =
    first_past _ _ c.sub_of-s0.ensures.sub c.if-s0-lt4.false
    (first_within _ _ c.sub_of-s1.ensures.sub c.if-s1-lt4.true)
    (omega arith)

pub returns-then-s2-lt4 : goal.returns-then-s2-lt4
returns-then-s2-lt4 c =
    first_past _ _ c.sub_of-s0.ensures.sub c.if-s0-lt4.false
    (first_past _ _ c.sub_of-s1.ensures.sub c.if-s1-lt4.false (first_within _ _ c.sub_of-s2.ensures.sub c.if-s2-lt4.true) refl)
    (omega arith)

pub overflow_add-result-2 : goal.overflow_add-result-2
overflow_add-result-2 c = omega (arith, c.sub_of.ensures.bound)

pub returns : goal.returns
returns c =
    first_past _ _ c.sub_of-s0.ensures.sub c.if-s0-lt4.false
    (first_past _ _ c.sub_of-s1.ensures.sub c.if-s1-lt4.false (first_past _ _ c.sub_of-s2.ensures.sub c.if-s2-lt4.false c.sub_of.ensures.sub refl) refl)
    (omega arith)
