-- What has to hold before a tree is written, and what is written. Definitions only.
use Rattle.std.specs.Prelude.{ℕ, ◌+◌, ◌^◌, ◌<◌, ◌≡◌, List, length}
use Rattle.math.specs.declared.vec3.Vec3.{Vec3 as Floats}
use Rattle.quarters.specs.declared.bounds.Aabb.{Aabb}
use Rattle.strip.specs.Fits.{All}
use Rattle.strip.specs.Rows.{points_at}
use Rattle.write_blocks.specs.Layout.{end_of}
use Rattle.write_blocks.specs.Laid.{Laid}
use Rattle.write_pages.specs.Sectors.{Sector, point_count, leaf_counts, sizes, tree_blocks}
use Rattle.write_pages.specs.Accepted.{FewIn}
use Rattle.write_leaf_counts.specs.Work.{tree_by}
use Rattle.write_leaves.specs.declared.SectorCursor.{SectorCursor}

-- the tree by the words of quarter boxes and leaves, of as many points, whose records stand in the strip from a place on
abbrev pub tree_in : (boxes numbers strip : List ℕ) (at : ℕ) → ℕ → ℕ → Aabb → Sector
tree_in boxes numbers strip at = tree_by boxes numbers (points_at strip at (length numbers))

-- a tree can be laid out behind `end`, its first point having the number `first`: no leaf has too much, and addresses and numbers keep to their bits
pub record TreeRoom (t : Sector) (end first : ℕ) : Type 0 where
  pub few : All FewIn (leaf_counts t)
  pub small : end_of end (sizes t) < 2 ^ 28
  pub numbers : first + point_count t < 2 ^ 32

-- ys is xs with the blocks of t, which has so many leaves, laid out from p on; and where the writer stands then
pub record Wrote (bb-min bb-size : Floats) (t : Sector) (leaves : ℕ) (p r : SectorCursor) (xs ys : List ℕ) : Type 0 where
  pub laid : Laid p.layout (tree_blocks bb-min bb-size p.layout.at p.first t) r.layout xs ys
  pub next : r.leaf ≡ p.leaf + leaves
  pub points : r.first ≡ p.first + point_count t
