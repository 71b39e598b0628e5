-- Where the work is long enough, the only refusal below 10 that a cell gets is 2, and it comes when every other check has passed. Assumes nothing.
use Prim.Native.Nat.{ℕ, zero, suc, ◌+◌, ◌/◌, ◌≤◌, ◌<◌}
use native.Mathlib.Omega.{arith}
use mathlib.Core.Path.{◌≡◌, refl}
use mathlib.Core.Bool.{Bool, true, false, not, ◌||◌, true≢false}
use mathlib.Core.List.{List, [], ◌∷◌}
use lib.Dec.{ltb}
use lib.ListN.{length}
use borrow.Author.Tests.{le-ltb}
use Rattle.math.specs.declared.vec3.Vec3.{Vec3 as Floats}
use Rattle.strip.specs.Cell.{NavPoly, Cell}
use Rattle.strip.specs.Fits.{All}
use Rattle.strip.specs.Box.{finite_box}
use Rattle.distinct.specs.Distinct.{with_new, distinct_from}
use Rattle.areas.specs.Areas.{seeded}
use Rattle.write_pages.specs.Items.{Corner, corners_in, triples, named}
use Rattle.write_pages.specs.Sectors.{leaf_counts}
use Rattle.write_pages.specs.Pages.{bb_min, bb_size, links, sectors, pages}
use Rattle.write_pages.specs.Checks.{Verdict, fine, refused, fault_if, first_fault, at, corner_fault, corners_fault, polygon_fault, polygons_verdict, leaf_fault, leaves_verdict, cell_verdict}
use Rattle.write_pages.specs.Accepted.{Accepted}
use Rattle.write_pages.proofs.Accepted.{accepted}

-- ---- faults: none, or one from 10 on

abbrev Late : ℕ → Type 0
Late n = 0 < n → 10 ≤ n

when_late : (bad : Bool) (n : ℕ) → 10 ≤ n → Late (fault_if bad n)
when_late true n h = λ some. h
when_late false n h = λ some. absurd (omega arith)

first_late : (ns : List ℕ) → All Late ns → Late (first_fault ns)
unfolding first_fault
first_late [] h = λ some. absurd (omega arith)
first_late (zero ∷ ns) h = first_late ns h.1
first_late (suc n ∷ ns) h = h.0

corner_late : (ts us : List ℕ) (k : Corner) → Late (corner_fault ts us k)
unfolding corner_fault
corner_late ts us k =
    let vs = with_new us k.edge.a.area in
    first_late _ (
      when_late (ltb 65536 (length (with_new ts k.vertex))) 14 (omega arith),
      (when_late (ltb 32 (length vs)) 15 (omega arith), (when_late (ltb 32 (length (with_new vs k.edge.b.area))) 15 (omega arith), tt)),
    )

corners_late : (ts us : List ℕ) (ks : List Corner) → Late (corners_fault ts us ks)
unfolding corners_fault
corners_late ts us [] = λ some. absurd (omega arith)
corners_late ts us (k ∷ ks) =
    first_late _ (corner_late ts us k, (corners_late (with_new ts k.vertex) (with_new (with_new us k.edge.a.area) k.edge.b.area) ks, tt))

polygon_late : (bb-min bb-size : Floats) (ts us : List ℕ) (start : ℕ) (p : NavPoly) → Late (polygon_fault bb-min bb-size ts us start p)
unfolding polygon_fault
polygon_late bb-min bb-size ts us start p =
    first_late _ (
      when_late (ltb (length p.vertices) 3 || ltb 2047 (length p.vertices)) 12 (omega arith),
      (when_late (ltb 65535 start) 13 (omega arith), (corners_late ts us (corners_in bb-min bb-size p), (when_late (ltb 7 (length p.links)) 16 (omega arith), tt))),
    )

leaf_late : (n : ℕ × ℕ) → Late (leaf_fault n)
leaf_late n = first_late _ (when_late (ltb 8192 n.0) 17 (omega arith), (when_late (ltb 2048 n.1) 18 (omega arith), tt))

-- ---- verdicts: where v has a refusal below 10, that is 2, and w has none

abbrev Twin : Verdict → Verdict → Type 0
Twin v w = (number place : ℕ) → v ≡ refused number place → number < 10 → (number ≡ 2) × (w ≡ fine)

late_twin : (n place : ℕ) (w : Verdict) → 10 ≤ n → Twin (refused n place) w
late_twin n place w h number at' e few = let same : n ≡ number = cc in absurd (omega arith)

twin_at : (place fault : ℕ) (v w : Verdict) → Late fault → Twin v w → Twin (at place fault v) (at place fault w)
unfolding at
twin_at place zero v w h t = t
twin_at place (suc n) v w h t = late_twin (suc n) place (refused (suc n) place) (h (omega arith))

polygons_twin : (bb-min bb-size : Floats) (ts us : List ℕ) (start k : ℕ) (ps : List NavPoly) (v w : Verdict) → Twin v w
    → Twin (polygons_verdict bb-min bb-size ts us start k ps v) (polygons_verdict bb-min bb-size ts us start k ps w)
unfolding polygons_verdict
polygons_twin bb-min bb-size ts us start k [] v w t = t
polygons_twin bb-min bb-size ts us start k (p ∷ ps) v w t =
    let ks = corners_in bb-min bb-size p in
    twin_at k _ _ _ (polygon_late bb-min bb-size ts us start p)
    (polygons_twin bb-min bb-size (distinct_from ts (triples ks)) (distinct_from us (named ks)) (start + length p.vertices) (k + 1) ps v w t)

leaves_twin : (k : ℕ) (ns : List (ℕ × ℕ)) (v w : Verdict) → Twin v w → Twin (leaves_verdict k ns v) (leaves_verdict k ns w)
unfolding leaves_verdict
leaves_twin k [] v w t = t
leaves_twin k (n ∷ ns) v w t = twin_at k _ _ _ (leaf_late n) (leaves_twin (k + 1) ns v w t)

-- 19, 20 and 2, where w's output is long enough
last_twin : (a b short fits : Bool) → fits ≡ false
    → Twin (at 0 (first_fault (fault_if a 19 ∷ fault_if b 20 ∷ fault_if short 2 ∷ [])) fine) (at 0 (first_fault (fault_if a 19 ∷ fault_if b 20 ∷ fault_if fits 2 ∷ [])) fine)
unfolding at first_fault
last_twin a b short true e = absurd (true≢false e)
last_twin true b short false e = late_twin 19 0 _ (omega arith)
last_twin false true short false e = late_twin 20 0 _ (omega arith)
last_twin false false true false e = λ number place f few. (cc, refl)
last_twin false false false false e = λ number place f few. let z : ◌≡◌ {A = ℕ} 0 1 = cc in absurd (omega arith)

-- 1, 10 and 11, where the work is long enough
first_three : (a b d : Bool) → a ≡ false → Late (first_fault (fault_if a 1 ∷ fault_if b 10 ∷ fault_if d 11 ∷ []))
unfolding first_fault
first_three true b d e = absurd (true≢false e)
first_three false b d e = first_late (fault_if b 10 ∷ fault_if d 11 ∷ []) (when_late b 10 (omega arith), (when_late d 11 (omega arith), tt))

-- ---- the cell

module _ (words work out : ℕ) (c : Cell) (enough : words ≤ work / 4) where
  cell_twin : Twin (cell_verdict words work out c) (cell_verdict words work (length (pages c)) c)
  unfolding cell_verdict
  cell_twin =
      twin_at 0 _ _ _ (first_three (ltb (work / 4) words) (not (finite_box c.head)) (ltb 16383 (length c.polys)) (le-ltb (work / 4) words enough))
      (polygons_twin (bb_min c) (bb_size c) [] (seeded c.head.area) 0 0 c.polys _ _
      (leaves_twin 0 (leaf_counts (sectors c)) _ _
      (last_twin (ltb 585 (length c.portals)) (ltb 8192 (length (links c))) (ltb out (length (pages c))) (ltb (length (pages c)) (length (pages c)))
      (le-ltb (length (pages c)) (length (pages c)) (omega arith)))))

  -- a cell that is refused below 10 is accepted but for its length
  pub refused_accepted : (number place : ℕ) → cell_verdict words work out c ≡ refused number place → number < 10 → Accepted c
  refused_accepted number place e few = ((accepted words work (length (pages c)) c).0 (cell_twin number place e few).1).1
