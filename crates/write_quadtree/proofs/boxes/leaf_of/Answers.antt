-- `write_quadtree::boxes::leaf_of` meets its contract: at depth 0 the one leaf, at depth 2 the leaves found axis by axis, which are the tree's by `leaf_crossed`.
use Prim.Native.Nat.{ℕ}
use mathlib.Core.Path.{◌≡◌, sym, ap, ◌∙◌}
use native.Mathlib.Omega.{arith}
use Rattle.write_pages.specs.Sectors.{leaves, leaf_of}
use Rattle.write_quadtree.proofs.Placing.{leaf_crossed}
use Rattle.write_quadtree.proofs.boxes.leaf_of.Goals as goal

pub returns-then-depth-eq0 : goal.returns-then-depth-eq0
returns-then-depth-eq0 c =
    let a = c.args in
    c.leaf_alone.ensures ∙ ap (λ (d : ℕ). leaf_of (leaves d a.b) a.p) (sym c.if-depth-eq0.true)

pub returns : goal.returns
returns c =
    let two : c.args.depth ≡ 2 = omega (arith, c.if-depth-eq0.false, c.requires.1, c.requires.2) in
    rw two
    (c.leaf_in.ensures ∙ rw (c.ranges_of.ensures, c.ranges_of-2.ensures, c.requires.0) (sym (leaf_crossed c.args.b c.args.p)))
