-- The checks in their order find nothing exactly when the cell is accepted, the work is long enough, and the pages fit. Assumes nothing.
use Prim.Native.Nat.{ℕ, zero, suc, ◌+◌, ◌/◌, ◌≤◌}
use mathlib.Core.Path.{◌≡◌, refl, ap, sym, subst}
use mathlib.Core.Bool.{Bool, true, false, not, ◌||◌, true≢false}
use mathlib.Core.Logic.{◌↔◌}
use mathlib.Core.List.{List, [], ◌∷◌, ◌++◌, map-append}
use native.Mathlib.Omega.{arith}
use lib.ListN.{length}
use lib.Dec.{ltb}
use borrow.Author.Tests.{ltb-false, le-ltb}
use Rattle.math.specs.declared.vec3.Vec3.{Vec3 as Floats}
use Rattle.strip.specs.Cell.{NavPoly, Cell}
use Rattle.strip.specs.Fits.{All}
use Rattle.strip.specs.Box.{finite_box}
use Rattle.distinct.specs.Distinct.{with_new, distinct_from}
use Rattle.distinct.proofs.Final.{length_grows, distinct_append}
use Rattle.areas.specs.Areas.{seeded}
use Rattle.areas.proofs.Seeds.{length_seeded}
use Rattle.write_pages.specs.Items.{Corner, gather, corners_in, corners, triples, named}
use Rattle.write_pages.specs.Sectors.{leaf_counts}
use Rattle.write_pages.specs.Pages.{bb_min, bb_size, vertices, areas, links, sectors, pages}
use Rattle.write_pages.specs.Checks.{Verdict, fine, fault_if, first_fault, at, corner_fault, corners_fault, polygon_fault, polygons_verdict, leaf_fault, leaves_verdict, cell_verdict}
use Rattle.write_pages.specs.Accepted.{Checked, AllChecked, FewIn, Accepted}

-- ---- a check, checks in order, and what comes after a place

when_fine : (b : Bool) (n : ℕ) → (fault_if b (suc n) ≡ 0) ↔ (b ≡ false)
when_fine true n = (λ e. absurd (omega arith), λ e. absurd (true≢false e))
when_fine false n = (λ e. refl, λ e. refl)

not_fine : (b : Bool) (n : ℕ) → (fault_if (not b) (suc n) ≡ 0) ↔ (b ≡ true)
not_fine true n = (λ e. refl, λ e. refl)
not_fine false n = (λ e. absurd (omega arith), λ e. absurd (true≢false (sym e)))

over_fine : (a b n : ℕ) → (fault_if (ltb a b) (suc n) ≡ 0) ↔ (b ≤ a)
over_fine a b n = (λ e. ltb-false a b ((when_fine (ltb a b) n).0 e), λ h. (when_fine (ltb a b) n).1 (le-ltb a b h))

pub or_false : (x y : Bool) → (x || y) ≡ false → (x ≡ false) × (y ≡ false)
or_false true y e = absurd (true≢false e)
or_false false y e = (refl, e)

-- 12, which has two sides
outside_fine : (least most n k : ℕ) → (fault_if (ltb n least || ltb most n) (suc k) ≡ 0) ↔ ((least ≤ n) × (n ≤ most))
outside_fine least most n k =
    let w = when_fine (ltb n least || ltb most n) k in (
      λ e. let h = or_false (ltb n least) (ltb most n) (w.0 e) in (ltb-false n least h.0, ltb-false most n h.1),
      λ h. w.1 (rw (le-ltb n least h.0, le-ltb most n h.1)),
    )

one_fine : {A : Type 0} (a : ℕ) → (a ≡ 0) ↔ A → (first_fault (a ∷ []) ≡ 0) ↔ A
unfolding first_fault
one_fine zero f = (λ e. f.0 refl, λ h. refl)
one_fine (suc a) f = (λ e. absurd (omega arith), λ h. absurd (omega (arith, f.1 h)))

then_fine : {A B : Type 0} (a : ℕ) (rest : List ℕ) → (a ≡ 0) ↔ A → (first_fault rest ≡ 0) ↔ B → (first_fault (a ∷ rest) ≡ 0) ↔ (A × B)
unfolding first_fault
then_fine zero rest f g = (λ e. (f.0 refl, g.0 e), λ h. g.1 h.1)
then_fine (suc a) rest f g = (λ e. absurd (omega arith), λ h. absurd (omega (arith, f.1 h.0)))

at_fine : {A B : Type 0} (place n : ℕ) {rest : Verdict} → (n ≡ 0) ↔ A → (rest ≡ fine) ↔ B → (at place n rest ≡ fine) ↔ (A × B)
unfolding at
at_fine place zero f g = (λ e. (f.0 refl, g.0 e), λ h. g.1 h.1)
at_fine place (suc n) f g = (λ e. absurd (let z : ◌≡◌ {A = ℕ} 0 1 = cc in omega arith), λ h. absurd (omega (arith, f.1 h.0)))

-- the same in other words
renamed : {A B C : Type 0} → (A → B) → (B → A) → C ↔ A → C ↔ B
renamed f g h = (λ c. f (h.0 c), λ b. h.1 (g b))

-- ---- tables only grow

pub triples_append : (ks ls : List Corner) → triples (ks ++ ls) ≡ triples ks ++ triples ls
triples_append ks ls = map-append (λ (k : Corner). k.vertex) ks ls

pub named_append : (ks ls : List Corner) → named (ks ++ ls) ≡ named ks ++ named ls
unfolding named
named_append [] ls = refl
named_append (k ∷ ks) ls = ap (λ (l : List ℕ). k.edge.a.area ∷ k.edge.b.area ∷ l) (named_append ks ls)

-- ---- 14 and 15, of all corners

abbrev Few : (ts us : List ℕ) → List Corner → Type 0
Few ts us ks = (length (distinct_from ts (triples ks)) ≤ 65536) × (length (distinct_from us (named ks)) ≤ 32)

few_append : (ts us : List ℕ) (ks ls : List Corner) → Few ts us (ks ++ ls) ≡ Few (distinct_from ts (triples ks)) (distinct_from us (named ks)) ls
few_append ts us ks ls = rw (triples_append ks ls, named_append ks ls, distinct_append ts (triples ks) (triples ls), distinct_append us (named ks) (named ls))

corner_fine : (ts us : List ℕ) (k : Corner)
    → (corner_fault ts us k ≡ 0)
    ↔ ((length (with_new ts k.vertex) ≤ 65536) × ((length (with_new us k.edge.a.area) ≤ 32) × (length (with_new (with_new us k.edge.a.area) k.edge.b.area) ≤ 32)))
unfolding corner_fault
corner_fine ts us k =
    then_fine _ _ (over_fine 65536 (length (with_new ts k.vertex)) 13)
    (then_fine _ _ (over_fine 32 (length (with_new us k.edge.a.area)) 14)
    (one_fine _ (over_fine 32 (length (with_new (with_new us k.edge.a.area) k.edge.b.area)) 14)))

corners_fine : (ts us : List ℕ) (ks : List Corner) → length ts ≤ 65536 → length us ≤ 32 → (corners_fault ts us ks ≡ 0) ↔ Few ts us ks
unfolding corners_fault distinct_from named
corners_fine ts us [] ht hu = (λ e. (ht, hu), λ h. refl)
corners_fine ts us (k ∷ ks) ht hu =
    let vs = with_new ts k.vertex in
    let bs = with_new (with_new us k.edge.a.area) k.edge.b.area in
    let both = then_fine _ _ (corner_fine ts us k) (one_fine (corners_fault vs bs ks) (λ e. e, λ e. e)) in (
      λ e. let h = both.0 e in (corners_fine vs bs ks h.0.0 h.0.1.1).0 h.1,
      λ h.
          let hv : length vs ≤ 65536 = omega (arith, length_grows vs (triples ks), h.0) in
          let hb : length bs ≤ 32 = omega (arith, length_grows bs (named ks), h.1) in
          let ha : length (with_new us k.edge.a.area) ≤ 32 = omega (arith, length_grows (with_new us k.edge.a.area) (k.edge.b.area ∷ []), hb) in
          both.1 ((hv, (ha, hb)), (corners_fine vs bs ks hv hb).1 h),
    )

-- ---- polygons

module _ (bb-min bb-size : Floats) where
  polygon_fine : (ts us : List ℕ) (start : ℕ) (p : NavPoly) → length ts ≤ 65536 → length us ≤ 32
      → (polygon_fault bb-min bb-size ts us start p ≡ 0) ↔ (Checked start p × Few ts us (corners_in bb-min bb-size p))
  unfolding polygon_fault
  polygon_fine ts us start p ht hu =
      renamed
      (λ h. (record { least_vertices = h.0.0; most_vertices = h.0.1; start_fits = h.1.0; few_links = h.1.1.1 }, h.1.1.0))
      (λ h. ((h.0.least_vertices, h.0.most_vertices), (h.0.start_fits, (h.1, h.0.few_links))))
      (then_fine _ _ (outside_fine 3 2047 (length p.vertices) 11)
      (then_fine _ _ (over_fine 65535 start 12)
      (then_fine _ _ (corners_fine ts us (corners_in bb-min bb-size p) ht hu)
      (one_fine _ (over_fine 7 (length p.links) 15)))))

  polygons_fine : {A : Type 0} (ts us : List ℕ) (start k : ℕ) (ps : List NavPoly) (rest : Verdict) → length ts ≤ 65536 → length us ≤ 32 → (rest ≡ fine) ↔ A
      → (polygons_verdict bb-min bb-size ts us start k ps rest ≡ fine) ↔ (AllChecked start ps × (Few ts us (corners bb-min bb-size ps) × A))
  unfolding polygons_verdict gather distinct_from named
  polygons_fine ts us start k [] rest ht hu f = renamed (λ a. (tt, ((ht, hu), a))) (λ h. h.1.1) f
  polygons_fine ts us start k (p ∷ ps) rest ht hu f =
      let ks = corners_in bb-min bb-size p in
      let ts' = distinct_from ts (triples ks) in
      let us' = distinct_from us (named ks) in
      let both = few_append ts us ks (corners bb-min bb-size ps) in
      let here = at_fine k _ {rest = polygons_verdict bb-min bb-size ts' us' (start + length p.vertices) (k + 1) ps rest} (polygon_fine ts us start p ht hu) (λ e. e, λ e. e) in (
        λ e.
            let h = here.0 e in
            let r = (polygons_fine ts' us' (start + length p.vertices) (k + 1) ps rest h.0.1.0 h.0.1.1 f).0 h.1 in
            ((h.0.0, r.0), (subst (λ (B : Type 0). B) (sym both) r.1.0, r.1.1)),
        λ h.
            let w = subst (λ (B : Type 0). B) both h.1.0 in
            let ht' : length ts' ≤ 65536 = omega (arith, length_grows ts' (triples (corners bb-min bb-size ps)), w.0) in
            let hu' : length us' ≤ 32 = omega (arith, length_grows us' (named (corners bb-min bb-size ps)), w.1) in
            here.1 ((h.0.0, (ht', hu')), (polygons_fine ts' us' (start + length p.vertices) (k + 1) ps rest ht' hu' f).1 (h.0.1, (w, h.1.1))),
      )

-- ---- leaves

leaf_fine : (n : ℕ × ℕ) → (leaf_fault n ≡ 0) ↔ FewIn n
leaf_fine n =
    renamed (λ h. record { ids = h.0; points = h.1 }) (λ h. (h.ids, h.points))
    (then_fine _ _ (over_fine 8192 n.0 16) (one_fine _ (over_fine 2048 n.1 17)))

leaves_fine : {A : Type 0} (k : ℕ) (ns : List (ℕ × ℕ)) (rest : Verdict) → (rest ≡ fine) ↔ A → (leaves_verdict k ns rest ≡ fine) ↔ (All FewIn ns × A)
unfolding leaves_verdict
leaves_fine k [] rest f = renamed (λ a. (tt, a)) (λ h. h.1) f
leaves_fine k (n ∷ ns) rest f =
    renamed (λ h. ((h.0, h.1.0), h.1.1)) (λ h. (h.0.0, (h.0.1, h.1)))
    (at_fine k _ (leaf_fine n) (leaves_fine (k + 1) ns rest f))

-- ---- all of them

pub accepted : (words work out : ℕ) (c : Cell)
    → (cell_verdict words work out c ≡ fine) ↔ ((words ≤ work / 4) × Accepted c × (length (pages c) ≤ out))
unfolding cell_verdict vertices areas
accepted words work out c =
    renamed
    (λ h. (
      h.0.0,
      record {
        finite_box_is = h.0.1.0;
        few_polygons = h.0.1.1;
        checked = h.1.0;
        few_vertices = h.1.1.0.0;
        few_areas = h.1.1.0.1;
        leaves = h.1.1.1.0;
        few_portals = h.1.1.1.1.0.0;
        few_links = h.1.1.1.1.0.1.0;
      },
      h.1.1.1.1.0.1.1,
    ))
    (λ h. let a = h.1 in (
      (h.0, (a.finite_box_is, a.few_polygons)),
      (a.checked, ((a.few_vertices, a.few_areas), (a.leaves, ((a.few_portals, (a.few_links, h.2)), refl)))),
    ))
    (at_fine 0 _
    (then_fine _ _ (over_fine (work / 4) words 0) (then_fine _ _ (not_fine (finite_box c.head) 9) (one_fine _ (over_fine 16383 (length c.polys) 10))))
    (polygons_fine (bb_min c) (bb_size c) [] (seeded c.head.area) 0 0 c.polys _ (omega arith) (omega (arith, length_seeded c.head.area))
    (leaves_fine 0 (leaf_counts (sectors c)) _
    (at_fine 0 _
    (then_fine _ _ (over_fine 585 (length c.portals) 18) (then_fine _ _ (over_fine 8192 (length (links c)) 19) (one_fine _ (over_fine out (length (pages c)) 1))))
    (λ e. e, λ e. e)))))
