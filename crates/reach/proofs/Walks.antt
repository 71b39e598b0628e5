-- What the walk leaves are the marks of the definition: its steps are steps of the strip's cell, and it ends where no step changes a mark. Assumes nothing.
use Prim.Native.Nat.{ℕ, zero, suc, ◌+◌, ◌*◌, ◌<◌}
use mathlib.Core.Path.{◌≡◌, refl, ap, ◌∙◌}
use mathlib.Core.Logic.{inr}
use mathlib.Core.List.{List}
use native.Mathlib.Omega.{arith}
use lib.ListN.{length, set, replicate}
use Rattle.strip.specs.Reading.{word, items_at, head_at, poly_at, polygon_at, nav_portal_at}
use Rattle.strip.specs.Rows.{after, polygons_at, after_polygons, portals_at}
use Rattle.strip.specs.Laid.{cell_at, first_portal}
use Rattle.strip.specs.declared.Counts.{Counts}
use Rattle.strip.proofs.Steps.{items_length}
use Rattle.reach_marks.specs.Step.{EdgesLead, PolygonLeads, PortalLeads, served, Reach}
use Rattle.reach_marks.specs.Marks.{marked}
use Rattle.reach_marks.proofs.Adds.{cross_adds}
use Rattle.reach_walk.specs.Walk.{Worked, same, polygon, portal}
use Rattle.reach_walk.specs.declared.Ground.{Ground}
use Rattle.reach_walk.proofs.Work.{worked_kept}
use Rattle.reach.specs.Reached.{marks_of}
use Rattle.reach.specs.Settled.{Settled}
use Rattle.reach.proofs.Good.{Good, adds_good, visit_good, Final, final_same}
use Rattle.reach.proofs.Marks.{first_good, first_seen, final}

-- the polygon of a number leads where its edges do, and the other way round
pub leads_to : (s : List ℕ) (own n i at j : ℕ) → i < n → EdgesLead own (served (polygon_at s (after_polygons s at i))) j → PolygonLeads own (polygons_at s at n) i j
unfolding items_at after
leads_to s own zero i at j h l = absurd (omega arith)
leads_to s own (suc n) zero at j h l = PolygonLeads.here l
leads_to s own (suc n) (suc i) at j h l = PolygonLeads.later (leads_to s own n i (poly_at s at).next j (omega arith) l)

pub leads_of : (s : List ℕ) (own n i at j : ℕ) → PolygonLeads own (polygons_at s at n) i j → EdgesLead own (served (polygon_at s (after_polygons s at i))) j
unfolding items_at after
leads_of s own zero i at j l = elim l [ ]
leads_of s own (suc n) zero at j (PolygonLeads.here l) = l
leads_of s own (suc n) (suc i) at j (PolygonLeads.later l) = leads_of s own n i (poly_at s at).next j l

-- and so does the portal of a number
pub portal_leads : (s : List ℕ) (own n k at : ℕ) → k < n → (nav_portal_at s (at + 11 * k)).area_from ≡ own → (nav_portal_at s (at + 11 * k)).area_to ≡ own
    → PortalLeads own (portals_at s at n) (nav_portal_at s (at + 11 * k)).poly_from (nav_portal_at s (at + 11 * k)).poly_to
unfolding items_at
portal_leads s own zero k at h f t = absurd (omega arith)
portal_leads s own (suc n) zero at h f t =
    let here : at + 11 * 0 ≡ at = omega arith in
    rw here (PortalLeads.here (rw here at f) (rw here at t))
portal_leads s own (suc n) (suc k) at h f t =
    let next : at + 11 * suc k ≡ at + 11 + 11 * k = omega arith in
    rw next (PortalLeads.later (portal_leads s own n k (at + 11) (omega arith) (rw next at f) (rw next at t)))

pub polys_length : (s : List ℕ) (n : Counts) → length (cell_at s n).polys ≡ n.polys
polys_length s n = items_length (polygon_at s) (λ x. (poly_at s x).next) n.polys 14

module _ (s : List ℕ) (n : Counts) (from stride : ℕ) where
  abbrev ground : Ground
  ground = record { own = word s 2; stride = stride; portal_at = first_portal s n; portals = n.portals }

  own_is : (cell_at s n).head.area ≡ word s 2
  unfolding head_at
  own_is = refl

  worked_good : {m m' : List ℕ} → Worked s ground m m' → Good (cell_at s n) from m → Good (cell_at s n) from m'
  unfolding head_at
  worked_good same g = g
  worked_good (polygon {m'} w i h) g =
      let k = worked_kept s ground w in
      visit_good (cell_at s n) from (served (polygon_at s (after_polygons s 14 i))) i m' (omega (arith, k.long)) (worked_good w g)
      (λ j l. leads_to s (word s 2) n.polys i 14 j (omega (arith, g.long, polys_length s n)) l)
      (λ j l. leads_of s (word s 2) n.polys i 14 j l)
  worked_good (portal {m'} w k h) g =
      let r = worked_good w g in
      let q = nav_portal_at s (first_portal s n + 11 * k) in
      adds_good (cell_at s n) from r
      (cross_adds (Reach (cell_at s n) from) (word s 2) q m'
      (λ f t l o. Reach.step (r.sound q.poly_from l) (omega (arith, r.long), inr (portal_leads s (word s 2) n.portals k (first_portal s n) h f t))))

  pub walked_final : from < n.polys → (m' : List ℕ) (count : ℕ) → Settled s ground (set (replicate n.polys 0) from 2) m' count → Final (cell_at s n) from m'
  unfolding head_at
  walked_final h m' count t =
      let good : Good (cell_at s n) from (set (replicate n.polys 0) from 2) = rw (polys_length s n) at (first_good (cell_at s n) from (rw (polys_length s n) h)) in
      let seen = rw (polys_length s n) at (first_seen (cell_at s n) from (rw (polys_length s n) h)) in
      record {
        good = worked_good t.worked good;
        first = (worked_kept s ground t.worked).seen from seen;
        done = t.done;
        crossed = t.crossed;
      }

  pub walked_is : from < n.polys → (m' : List ℕ) (count : ℕ) → Settled s ground (set (replicate n.polys 0) from 2) m' count
      → (m' ≡ marks_of (cell_at s n) from) × (count ≡ marked (marks_of (cell_at s n) from))
  walked_is h m' count t =
      let e = final_same (cell_at s n) from (walked_final h m' count t) (final (cell_at s n) from (rw (polys_length s n) h)) in
      (e, t.counted ∙ ap marked e)
