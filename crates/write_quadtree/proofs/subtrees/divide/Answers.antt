-- `write_quadtree::subtrees::divide` meets its contract: the boxes are the callee's, and the width is a quarter of the leaves, so that the numbers fit (`four`).
use Prim.Native.Nat.{ℕ, ◌+◌, ◌-◌, ◌*◌, ◌^◌}
use mathlib.Core.Path.{◌≡◌}
use native.Mathlib.Omega.{arith}
use Rattle.quarters.specs.declared.bounds.Aabb.{Aabb}
use Rattle.write_pages.specs.Sectors.{sub0, sub1, sub2, sub3}
use Rattle.write_quadtree.specs.Subtrees.{subtree, divided}
use Rattle.write_quadtree.specs.declared.subtrees.Subtree.{Subtree}
use Rattle.write_quadtree.specs.declared.subtrees.Subtrees.{Subtrees}
use Rattle.write_quadtree.proofs.Dividing.{four}
use Rattle.write_quadtree.proofs.subtrees.divide.Goals as goal

pub overflow_add-result : goal.overflow_add-result
overflow_add-result c = omega (arith, c.leaf_count-width.ensures.count, four c.args.t.depth c.requires.0)

pub overflow_add-result-2 : goal.overflow_add-result-2
overflow_add-result-2 c = omega (arith, c.leaf_count-width.ensures.count, four c.args.t.depth c.requires.0)

pub overflow_add-result-3 : goal.overflow_add-result-3
overflow_add-result-3 c = omega (arith, c.leaf_count-width.ensures.count, four c.args.t.depth c.requires.0)

-- the four subs are those of the definition where their boxes and numbers are
same : (t : Subtree) {b0 b1 b2 b3 : Aabb} {k1 k2 k3 : ℕ} → b0 ≡ sub0 t.b → b1 ≡ sub1 t.b → b2 ≡ sub2 t.b → b3 ≡ sub3 t.b
    → k1 ≡ t.leaf + 4 ^ (t.depth - 1) → k2 ≡ t.leaf + 2 * 4 ^ (t.depth - 1) → k3 ≡ t.leaf + 3 * 4 ^ (t.depth - 1)
    → let d = t.depth - 1 in ◌≡◌ {A = Subtrees} (record { s0 = subtree b0 d t.leaf; s1 = subtree b1 d k1; s2 = subtree b2 d k2; s3 = subtree b3 d k3 }) (divided t)
same t e0 e1 e2 e3 f1 f2 f3 = rw (e0, e1, e2, e3, f1, f2, f3)

pub returns : goal.returns
returns c =
    let w = c.leaf_count-width.ensures.count in
    let e = c.split-subs.ensures in
    same c.args.t e.s0 e.s1 e.s2 e.s3 (omega (arith, w)) (omega (arith, w)) (omega (arith, w))
