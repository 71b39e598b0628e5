-- A written tree in the order in which it is read: how many sectors, and their points. Definitions only.
use Rattle.std.specs.Prelude.{ℕ, ◌+◌, List, ◌++◌}
use Rattle.strip.specs.Cell.{NavPoint}
use Rattle.write_pages.specs.Sectors.{Sector, leaf, node}

-- how many sectors there are, how many points are stored, and how many bytes count for the total: 96 for a sector, 32 for a leaf, 2 for an id, 8 for
-- a point
unfoldable pub sector_count : Sector → ℕ
sector_count (leaf b is ts) = 1
sector_count (node b t0 t1 t2 t3) = 1 + (sector_count t0 + (sector_count t1 + (sector_count t2 + sector_count t3)))

-- the points as they are read: preorder goes over subs 3, 2, 1, 0
unfoldable pub preorder : Sector → List NavPoint
preorder (leaf b is ts) = ts
preorder (node b t0 t1 t2 t3) = preorder t3 ++ (preorder t2 ++ (preorder t1 ++ preorder t0))
