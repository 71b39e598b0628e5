-- Where a cell's points go: into the first leaf that contains them, or nowhere. Definitions only.
use Rattle.std.specs.Prelude.{ℕ, zero, suc, ◌+◌, ◌≡◌, true, false, List, [], ◌∷◌, ◌++◌}
use Rattle.math.specs.declared.vec3.Vec3.{Vec3 as Floats}
use Rattle.quarters.specs.declared.bounds.Aabb.{Aabb}
use Rattle.strip.specs.Cell.{NavPoint}
use Rattle.write_pages.specs.Sectors.{Sector, inside}
use Rattle.write_pages.specs.Sectors.Sector.{leaf, node}

-- p is inside box k and inside none before it; p is inside none of the boxes
abbrev pub FirstIn : List Aabb → ℕ → Floats → Type 0
FirstIn [] k p = ⊥
FirstIn (b ∷ bs) zero p = inside b p ≡ true
FirstIn (b ∷ bs) (suc k) p = (inside b p ≡ false) × FirstIn bs k p

abbrev pub Outside : List Aabb → Floats → Type 0
Outside [] p = Unit
Outside (b ∷ bs) p = (inside b p ≡ false) × Outside bs p

-- a tree's leaves in writing order, each with its box and its points
unfoldable pub leaf_list : Sector → List (Aabb × List NavPoint)
leaf_list (leaf b is ts) = (b, ts) ∷ []
leaf_list (node b t0 t1 t2 t3) = leaf_list t0 ++ (leaf_list t1 ++ (leaf_list t2 ++ leaf_list t3))

-- boxes from number k on, each with the points of its number
unfoldable pub numbered : (ℕ → List NavPoint) → ℕ → List Aabb → List (Aabb × List NavPoint)
numbered stored k [] = []
numbered stored k (b ∷ bs) = (b, stored k) ∷ numbered stored (k + 1) bs
