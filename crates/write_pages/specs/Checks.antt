-- The writer's refusals, each with its number and place, in document 01's order: 3, 1, 10, 11; per polygon 12, 13, then per vertex 14, then 15 for half a
-- and b, then 16; leaves in order 17, 18; 19, 20, 2. Definitions only.
use Rattle.std.specs.Prelude.{ℕ, zero, suc, ◌+◌, ◌/◌, Bool, cond, not, ◌||◌, List, [], ◌∷◌, length, ltb}
use Rattle.math.specs.declared.vec3.Vec3.{Vec3 as Floats}
use Rattle.strip.specs.Cell.{NavPoly, Cell}
use Rattle.strip.specs.Box.{finite_box}
use Rattle.strip.specs.Scan.{scan}
use Rattle.strip.specs.Outcome.{Outcome, done}
use Rattle.strip.specs.Check.{on_cell}
use Rattle.distinct.specs.Distinct.{with_new, distinct_from}
use Rattle.areas.specs.Areas.{seeded}
use Rattle.write_pages.specs.Items.{Corner, corners_in, triples, named}
use Rattle.write_pages.specs.Sectors.{leaf_counts}
use Rattle.write_pages.specs.Pages.{bb_min, bb_size, links, sectors, pages}

-- nothing is refused, or a refusal's number and place
pub data Verdict : Type 0 where
  fine : Verdict
  refused : ℕ → ℕ → Verdict

-- A fault is a refusal's number, and 0 for none. One check, where `bad` says that it fails; and the first fault of checks in order.
abbrev pub fault_if : (bad : Bool) → ℕ → ℕ
fault_if bad number = cond bad number 0

unfoldable pub first_fault : List ℕ → ℕ
first_fault [] = 0
first_fault (zero ∷ rest) = first_fault rest
first_fault (suc n ∷ rest) = suc n

-- a fault at a place, or what comes after it
unfoldable pub at : (place fault : ℕ) → Verdict → Verdict
at place zero rest = rest
at place (suc n) rest = refused (suc n) place

-- ---- polygons. ts are the vertices met before, us the area table so far

-- 14 a 65,537th vertex; 15 a 33rd area, by half a and then by half b
unfoldable pub corner_fault : (ts us : List ℕ) → Corner → ℕ
corner_fault ts us k =
    first_fault
    (fault_if (ltb 65536 (length (with_new ts k.vertex))) 14
    ∷ fault_if (ltb 32 (length (with_new us k.edge.a.area))) 15
    ∷ fault_if (ltb 32 (length (with_new (with_new us k.edge.a.area) k.edge.b.area))) 15
    ∷ [])

unfoldable pub corners_fault : (ts us : List ℕ) → List Corner → ℕ
corners_fault ts us [] = 0
corners_fault ts us (k ∷ ks) =
    first_fault
    (corner_fault ts us k
    ∷ corners_fault (with_new ts k.vertex) (with_new (with_new us k.edge.a.area) k.edge.b.area) ks
    ∷ [])

-- 12 under 3 or over 2047 vertices; 13 start above 65535; 14 and 15 by corner; 16 over 7 links
unfoldable pub polygon_fault : (bb-min bb-size : Floats) → (ts us : List ℕ) → (start : ℕ) → NavPoly → ℕ
polygon_fault bb-min bb-size ts us start p =
    first_fault
    (fault_if (ltb (length p.vertices) 3 || ltb 2047 (length p.vertices)) 12
    ∷ fault_if (ltb 65535 start) 13
    ∷ corners_fault ts us (corners_in bb-min bb-size p)
    ∷ fault_if (ltb 7 (length p.links)) 16
    ∷ [])

-- the polygons from number k on, whose runs begin at `start`, then the rest
unfoldable pub polygons_verdict : (bb-min bb-size : Floats) → (ts us : List ℕ) → (start k : ℕ) → List NavPoly → Verdict → Verdict
polygons_verdict bb-min bb-size ts us start k [] rest = rest
polygons_verdict bb-min bb-size ts us start k (p ∷ ps) rest =
    at k (polygon_fault bb-min bb-size ts us start p)
    (polygons_verdict bb-min bb-size
    (distinct_from ts (triples (corners_in bb-min bb-size p)))
    (distinct_from us (named (corners_in bb-min bb-size p)))
    (start + length p.vertices) (k + 1) ps rest)

-- ---- leaves

-- 17 over 8,192 ids, 18 over 2,048 points
abbrev pub leaf_fault : ℕ × ℕ → ℕ
leaf_fault n = first_fault (fault_if (ltb 8192 n.0) 17 ∷ fault_if (ltb 2048 n.1) 18 ∷ [])

-- the leaves from number k on, by their counts of ids and points, then the rest
unfoldable pub leaves_verdict : (k : ℕ) → List (ℕ × ℕ) → Verdict → Verdict
leaves_verdict k [] rest = rest
leaves_verdict k (n ∷ ns) rest = at k (leaf_fault n) (leaves_verdict (k + 1) ns rest)

-- ---- all of them

-- the checks of a cell whose strip has so many words, with so many words of work and bytes of output. 10 box (min, max or size) not finite
unfoldable pub cell_verdict : (words work out : ℕ) → Cell → Verdict
cell_verdict words work out c =
    at 0 (first_fault (fault_if (ltb (work / 4) words) 1 ∷ fault_if (not (finite_box c.head)) 10 ∷ fault_if (ltb 16383 (length c.polys)) 11 ∷ []))
    (polygons_verdict (bb_min c) (bb_size c) [] (seeded c.head.area) 0 0 c.polys
    (leaves_verdict 0 (leaf_counts (sectors c))
    (at 0 (first_fault (fault_if (ltb 585 (length c.portals)) 19 ∷ fault_if (ltb 8192 (length (links c))) 20 ∷ fault_if (ltb out (length (pages c))) 2 ∷ []))
    fine)))

-- ---- the call: a strip that is badly formed is refused with 3, and an accepted one gives its pages. `values` are the answer's own

abbrev pub on_verdict : {A : Type 0} → Verdict → Outcome A → Outcome A
on_verdict fine o = o
on_verdict (refused number place) o = Outcome.refused number place

abbrev pub cell_outcome : {A : Type 0} → (values : Cell → A) → (words work out : ℕ) → Cell → Outcome A
cell_outcome values words work out c = on_verdict (cell_verdict words work out c) (done (values c) (pages c))

abbrev pub write_outcome : {A : Type 0} → (values : Cell → A) → (strip : List ℕ) → (work out : ℕ) → Outcome A
write_outcome values strip work out = on_cell (cell_outcome values (length strip) work out) (scan strip)
