-- The cycle of calls {tree_end} of `write_ends` meets its contract. The measure is the depth. At a leaf the callee answers; where a box splits, the sector's block is followed by the subs',
-- each call going on where the last one ended. Assumes nothing.
use mathlib.Core.Path.{◌≡◌, sym, ap, subst, ◌∙◌}
use mathlib.Core.List.{List, [], ◌∷◌, ◌++◌}
use Prim.Native.Nat.{ℕ}
use native.Mathlib.Omega.{arith}
use Rattle.write_quadtree.specs.Subtrees.{divided}
use Rattle.write_quadtree.specs.declared.subtrees.Subtree.{Subtree}
use Rattle.write_quadtree.specs.declared.subtrees.Subtrees.{Subtrees}
use Rattle.write_quadtree.proofs.Dividing.{Below, subs_below, on}
use Rattle.write_ends.specs.Ends.{sizes_by}
use Rattle.write_ends.proofs.Behind.{sizes_subs}
use Rattle.write_blocks.specs.Laid.{reached, Within}
use Rattle.write_blocks.specs.declared.Layout.{Layout}
use Rattle.write_blocks.proofs.Layouts.{joined, begins, onward}
use Rattle.write_ends.proofs.+tree_end.Goals as goal
use Rattle.write_ends.proofs.+tree_end.Goals.{After-divide-subs}

subs : (t : ℕ) (c : After-divide-subs t) → let r = c.divide-subs.result in Below t r.s0 × Below t r.s1 × Below t r.s2 × Below t r.s3
subs t c = subs_below c.args.t c.if-t-eq0.false c.divide-subs.ensures (omega (arith, c.decreases)) c.requires.0

-- a part of the tree that splits, from l on
module _ (boxes numbers : List ℕ) (l : Layout) (t : Subtree) (splits : t.depth ≡ 0 → ⊥) (r : Subtrees) (e : r ≡ divided t) where
  -- the subs' sizes, and those from a sub on
  abbrev sizes : Subtree → List ℕ
  sizes = on (sizes_by boxes numbers)

  abbrev n0 : List ℕ
  n0 = sizes r.s0

  abbrev n1 : List ℕ
  n1 = sizes r.s1

  abbrev n2 : List ℕ
  n2 = sizes r.s2

  abbrev n3 : List ℕ
  n3 = sizes r.s3

  abbrev from2 : List ℕ
  from2 = n2 ++ n3

  abbrev from1 : List ℕ
  from1 = n1 ++ from2

  abbrev from0 : List ℕ
  from0 = n0 ++ from1

  whole : sizes t ≡ 96 ∷ from0
  whole = sizes_subs boxes numbers t splits e

  module _ (h : Within l (sizes t)) where
    begun : Within l (96 ∷ from0)
    begun = subst (Within l) whole h

    -- the rest is within, behind each call
    in0 : (l0 : Layout) → l0 ≡ reached l (96 ∷ []) → Within l0 from0
    in0 l0 a = onward (96 ∷ []) from0 a begun

    in1 : (l0 l1 : Layout) → l0 ≡ reached l (96 ∷ []) → l1 ≡ reached l0 n0 → Within l1 from1
    in1 l0 l1 a b = onward n0 from1 b (in0 l0 a)

    in2 : (l0 l1 l2 : Layout) → l0 ≡ reached l (96 ∷ []) → l1 ≡ reached l0 n0 → l2 ≡ reached l1 n1 → Within l2 from2
    in2 l0 l1 l2 a b c = onward n1 from2 c (in1 l0 l1 a b)

    in3 : (l0 l1 l2 l3 : Layout) → l0 ≡ reached l (96 ∷ []) → l1 ≡ reached l0 n0 → l2 ≡ reached l1 n1 → l3 ≡ reached l2 n2 → Within l3 n3
    in3 l0 l1 l2 l3 a b c d = onward n2 n3 d (in2 l0 l1 l2 a b c)

  all : (l0 l1 l2 l3 l4 : Layout) → l0 ≡ reached l (96 ∷ []) → l1 ≡ reached l0 n0 → l2 ≡ reached l1 n1 → l3 ≡ reached l2 n2 → l4 ≡ reached l3 n3 → l4 ≡ reached l (sizes t)
  all l0 l1 l2 l3 l4 a b c d f =
      f ∙ joined _ n2 n3 d ∙ joined _ n1 from2 c ∙ joined _ n0 from1 b ∙ joined _ (96 ∷ []) from0 a ∙ ap (reached l) (sym whole)

pub leaf_by-requires : goal.leaf_by-requires
leaf_by-requires t c = rw c.if-t-eq0.true at c.requires.1

pub returns-then-t-eq0 : goal.returns-then-t-eq0
returns-then-t-eq0 t c = c.leaf_by.ensures ∙ rw c.if-t-eq0.true

pub divide-subs-requires : goal.divide-subs-requires
divide-subs-requires t c = (c.if-t-eq0.false, c.requires.0)

pub alloc-l0-requires : goal.alloc-l0-requires
alloc-l0-requires t c = (begins (96 ∷ []) _ (begun c.args.boxes.now c.args.numbers.now c.args.l c.args.t c.if-t-eq0.false c.divide-subs.result c.divide-subs.ensures c.requires.1)).below

pub tree_end-l1-requires : goal.tree_end-l1-requires
tree_end-l1-requires t c =
    let b = (subs t (goal.at.tree_end-l1-requires t c).After-divide-subs).0 in
    (b.falls, (b.numbered, begins _ _ (in0 c.args.boxes.now c.args.numbers.now c.args.l c.args.t c.if-t-eq0.false c.divide-subs.result c.divide-subs.ensures c.requires.1 c.alloc-l0.result c.alloc-l0.ensures)))

pub tree_end-l2-requires : goal.tree_end-l2-requires
tree_end-l2-requires t c =
    let b = (subs t (goal.at.tree_end-l2-requires t c).After-divide-subs).1 in
    (b.falls, (b.numbered, begins _ _ (in1 c.args.boxes.now c.args.numbers.now c.args.l c.args.t c.if-t-eq0.false c.divide-subs.result c.divide-subs.ensures c.requires.1 c.alloc-l0.result c.tree_end-l1.result c.alloc-l0.ensures c.tree_end-l1.ensures)))

pub tree_end-l3-requires : goal.tree_end-l3-requires
tree_end-l3-requires t c =
    let b = (subs t (goal.at.tree_end-l3-requires t c).After-divide-subs).2 in
    (b.falls, (b.numbered, begins _ _ (in2 c.args.boxes.now c.args.numbers.now c.args.l c.args.t c.if-t-eq0.false c.divide-subs.result c.divide-subs.ensures c.requires.1 c.alloc-l0.result c.tree_end-l1.result c.tree_end-l2.result c.alloc-l0.ensures c.tree_end-l1.ensures c.tree_end-l2.ensures)))

pub tree_end-requires : goal.tree_end-requires
tree_end-requires t c =
    let b = (subs t (goal.at.tree_end-requires t c).After-divide-subs).3 in
    (b.falls, (b.numbered, in3 c.args.boxes.now c.args.numbers.now c.args.l c.args.t c.if-t-eq0.false c.divide-subs.result c.divide-subs.ensures c.requires.1 c.alloc-l0.result c.tree_end-l1.result c.tree_end-l2.result c.tree_end-l3.result c.alloc-l0.ensures c.tree_end-l1.ensures c.tree_end-l2.ensures c.tree_end-l3.ensures))

pub returns : goal.returns
returns t c =
    all c.args.boxes.now c.args.numbers.now c.args.l c.args.t c.if-t-eq0.false c.divide-subs.result c.divide-subs.ensures
    c.alloc-l0.result c.tree_end-l1.result c.tree_end-l2.result c.tree_end-l3.result c.tree_end.result c.alloc-l0.ensures c.tree_end-l1.ensures c.tree_end-l2.ensures c.tree_end-l3.ensures c.tree_end.ensures
