-- Where a badly formed strip is bad: its records are good up to one that is not, and the place is one of three. Assumes nothing.
use Prim.Native.Nat.{ℕ, zero, suc, ◌+◌, ◌-◌, ◌<◌, ◌≤◌}
use mathlib.Core.Path.{◌≡◌, refl, ap, ◌∙◌}
use mathlib.Core.Logic.{◌↔◌}
use mathlib.Core.List.{List}
use native.Mathlib.Omega.{arith}
use lib.ListN.{length}
use Rattle.std.specs.Prelude.{Result, Ok, Err}
use Rattle.strip.specs.Cell.{Head, NavPoly, NavPortal, NavPoint}
use Rattle.strip.specs.Reading.{poly_at, polygon_at, nav_portal_at, point_at, head_at}
use Rattle.strip.specs.Scan.{Rest, Scanned, polygon_rank, cell_rank, portal_rank, point_rank, record_at, on_record, with_polygon, with_portal, with_point, with_head, rest_at, scan}
use Rattle.strip.specs.declared.Record.{Record}
use Rattle.strip.specs.declared.Record.TheVariants.{Cell as IsCell, Polygon as IsPolygon, Portal as IsPortal, Point as IsPoint, End as IsEnd}
use Rattle.strip.specs.Faults.{Place, Goes, next_of, rank_of, Reached, start, step}
use Rattle.strip.proofs.Judged.{Judged, cell, polygon, portal, point, end, bad, judged, poly_next, rest_step}
pub use Rattle.strip.specs.Faults.{Fault, Refused, badly_formed}

module _ (s : List ℕ) where
  abbrev Faulty : Rest → Type 0
  Faulty (Rest.good ps qs ts) = Unit
  Faulty (Rest.bad place) = Fault s place

  faulty_polygon : (p : NavPoly) (r : Rest) → Faulty r → Faulty (with_polygon p r)
  faulty_polygon p (Rest.good ps qs ts) f = tt
  faulty_polygon p (Rest.bad place) f = f

  faulty_portal : (q : NavPortal) (r : Rest) → Faulty r → Faulty (with_portal q r)
  faulty_portal q (Rest.good ps qs ts) f = tt
  faulty_portal q (Rest.bad place) f = f

  faulty_point : (t : NavPoint) (r : Rest) → Faulty r → Faulty (with_point t r)
  faulty_point t (Rest.good ps qs ts) f = tt
  faulty_point t (Rest.bad place) f = f

  faulty_on : (at rank : ℕ) → Reached s at rank → ((n l : ℕ) → at < n → n ≤ length s → Reached s n l → Faulty (rest_at s n l))
      → {r : Result Record ℕ} → record_at s at rank ≡ r → Judged s at rank r → Faulty (on_record r (rest_at s) s at)
  faulty_on at rank h go e (cell k o r) = go (at + 14) cell_rank (omega arith) r (step h IsCell e tt)
  faulty_on at rank h go e (polygon k o r t) =
      faulty_polygon (polygon_at s at) (rest_at s (poly_at s at).next polygon_rank)
      (go (poly_at s at).next polygon_rank (omega (arith, poly_next s at)) r (step h (IsPolygon (poly_at s at)) e tt))
  faulty_on at rank h go e (portal k o r t) =
      faulty_portal (nav_portal_at s at) (rest_at s (at + 11) portal_rank) (go (at + 11) portal_rank (omega arith) r (step h IsPortal e tt))
  faulty_on at rank h go e (point k o r) =
      faulty_point (point_at s at) (rest_at s (at + 4) point_rank) (go (at + 4) point_rank (omega arith) r (step h IsPoint e tt))
  faulty_on at rank h go e (end k o r t) = tt
  faulty_on at rank h go e (bad p) = record { at = at; rank = rank; reached = h; found = e; named = p }

  faulty_rest : (t at rank : ℕ) → length s - at < t → Reached s at rank → Faulty (rest_at s at rank)
  faulty_rest zero at rank l h = absurd (omega arith)
  faulty_rest (suc t) at rank l h =
      rw (rest_step s at rank)
      (faulty_on at rank h (λ n k a b. faulty_rest t n k (omega arith)) refl (judged s at rank))

  abbrev FaultyCell : Scanned → Type 0
  FaultyCell (Scanned.ok c) = Unit
  FaultyCell (Scanned.fault number place) = Refused s number place

  faulty_head : (h : Head) (r : Rest) → Faulty r → FaultyCell (with_head h r)
  faulty_head h (Rest.good ps qs ts) f = tt
  faulty_head h (Rest.bad place) f = badly_formed f

  faulty_all : FaultyCell (scan s)
  unfolding scan
  faulty_all = faulty_head (head_at s 0) (rest_at s 0 0) (faulty_rest (suc (length s)) 0 0 (omega arith) start)

-- and back: where the records are good up to a position, the rest's place is the strip's
module _ (s : List ℕ) (place : ℕ) where
  bad_on : (at rank : ℕ) (r : Record) → Goes r → rest_at s (next_of at r) (rank_of r) ≡ Rest.bad place → on_record (Ok r) (rest_at s) s at ≡ Rest.bad place
  bad_on at rank IsCell g e = e
  bad_on at rank (IsPolygon p) g e = ap (with_polygon (polygon_at s at)) e
  bad_on at rank IsPortal g e = ap (with_portal (nav_portal_at s at)) e
  bad_on at rank IsPoint g e = ap (with_point (point_at s at)) e
  bad_on at rank IsEnd g e = absurd g

  bad_back : {at rank : ℕ} → Reached s at rank → rest_at s at rank ≡ Rest.bad place → rest_at s 0 0 ≡ Rest.bad place
  bad_back start e = e
  bad_back (step {at} {rank} h r f g) e =
      bad_back h (rest_step s at rank ∙ ap (λ (x : Result Record ℕ). on_record x (rest_at s) s at) f ∙ bad_on at rank r g e)

  fault_back : Fault s place → scan s ≡ Scanned.fault 3 place
  unfolding scan
  fault_back f =
      let here : rest_at s f.at f.rank ≡ Rest.bad place = rest_step s f.at f.rank ∙ ap (λ (x : Result Record ℕ). on_record x (rest_at s) s f.at) f.found in
      ap (with_head (head_at s 0)) (bad_back f.reached here)

refused_back : (s : List ℕ) {number place : ℕ} → Refused s number place → scan s ≡ Scanned.fault number place
refused_back s (badly_formed {place} f) = fault_back s place f

-- A strip is refused exactly when its records are good up to one that is bad; the number is 3, and the place as `Place` has it.
pub scan_fault : (s : List ℕ) (number place : ℕ) → (scan s ≡ Scanned.fault number place) ↔ Refused s number place
scan_fault s number place = (λ e. rw e at (faulty_all s), refused_back s)

-- what calls need of its number
pub refused_three : {s : List ℕ} {number place : ℕ} → Refused s number place → number ≡ 3
refused_three (badly_formed f) = refl

pub refused_above_zero : {s : List ℕ} {number place : ℕ} → Refused s number place → 0 < number
refused_above_zero r = omega (arith, refused_three r)
