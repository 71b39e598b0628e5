-- What steps do to the marks, by the polygon's number: 0 not seen, 2 seen with its steps not yet taken, 1 done. Contracts cite these; what a reader has to
-- believe is `Step` and `Reach`. Definitions only.
use Rattle.std.specs.Prelude.{ℕ, zero, suc, ◌+◌, List, [], ◌∷◌, cond, eqb, ltb, length, get_or, set}
use Rattle.nobody.specs.Nobody.{cut, nobody}
use Rattle.strip.specs.Cell.{NavEdgeEnd, NavEdge, NavPortal}

-- a polygon that was not seen now is
unfoldable pub mark : ℕ → List ℕ → List ℕ
mark j m = cond (ltb j (length m)) (cond (eqb (get_or m j 0) 0) (set m j 2) m) m

-- so is what a half leads to, and what edges do
unfoldable pub half_pass : ℕ → NavEdgeEnd → List ℕ → List ℕ
half_pass own h m = cond (eqb h.area own) (cond (nobody h.poly) m (mark (cut h.poly) m)) m

unfoldable pub edge_pass : ℕ → List NavEdge → List ℕ → List ℕ
edge_pass own [] m = m
edge_pass own (e ∷ es) m = edge_pass own es (half_pass own e.b (half_pass own e.a m))

-- a polygon with these edges takes its steps, if it is seen and has not taken them
unfoldable pub visit : ℕ → List NavEdge → ℕ → List ℕ → List ℕ
visit own es i m = cond (eqb (get_or m i 0) 2) (set (edge_pass own es m) i 1) m

-- where one polygon is seen another is; past the last there is none
unfoldable pub lead : ℕ → ℕ → List ℕ → List ℕ
lead from to m = cond (eqb (get_or m from 0) 0) m (mark to m)

unfoldable pub cross : ℕ → NavPortal → List ℕ → List ℕ
cross own q m = cond (eqb q.area_from own) (cond (eqb q.area_to own) (lead q.poly_from q.poly_to m) m) m

unfoldable pub portal_pass : ℕ → List NavPortal → List ℕ → List ℕ
portal_pass own [] m = m
portal_pass own (q ∷ qs) m = portal_pass own qs (cross own q m)

-- how many are seen
unfoldable pub marked : List ℕ → ℕ
marked [] = 0
marked (zero ∷ m) = marked m
marked (suc a ∷ m) = 1 + marked m
