-- A part of a cell's tree, and its four subs. Definitions only.
use Rattle.std.specs.Prelude.{ℕ, ◌+◌, ◌-◌, ◌*◌, ◌^◌, ◌≤◌, ◌<◌}
use Rattle.quarters.specs.declared.bounds.Aabb.{Aabb}
use Rattle.write_pages.specs.Sectors.{sub0, sub1, sub2, sub3}
use Rattle.write_quadtree.specs.declared.subtrees.Subtree.{Subtree}
use Rattle.write_quadtree.specs.declared.subtrees.Subtrees.{Subtrees}

-- it splits at most twice, and its leaves' numbers are 32 bits
abbrev pub Numbered : Subtree → Type 0
Numbered t = (t.depth ≤ 2) × (t.leaf + 4 ^ t.depth < 2 ^ 32)

abbrev pub subtree : (b : Aabb) (depth leaf : ℕ) → Subtree
subtree b depth leaf = record { b = b; depth = depth; leaf = leaf }

-- the subs, one split down: the leaves of each are numbered behind those of the subs before it
abbrev pub divided : Subtree → Subtrees
divided t = record {
  s0 = subtree (sub0 t.b) (t.depth - 1) t.leaf;
  s1 = subtree (sub1 t.b) (t.depth - 1) (t.leaf + 4 ^ (t.depth - 1));
  s2 = subtree (sub2 t.b) (t.depth - 1) (t.leaf + 2 * 4 ^ (t.depth - 1));
  s3 = subtree (sub3 t.b) (t.depth - 1) (t.leaf + 3 * 4 ^ (t.depth - 1));
}
