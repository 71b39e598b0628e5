-- The lists of a scanned cell are what stands at the positions that a loop goes through: the polygons from word 14 on, then the portals,
-- the points and the end. Assumes nothing.
use Prim.Native.Nat.{ℕ, zero, suc, ◌+◌, ◌-◌, ◌*◌, ◌≤◌, ◌<◌}
use mathlib.Core.Path.{◌≡◌, refl, ap, sym, ◌∙◌}
use mathlib.Core.List.{List, [], ◌∷◌}
use native.Mathlib.Omega.{arith}
use lib.ListN.{length}
use Rattle.strip.specs.Cell.{Cell, NavPoly, NavPortal, NavPoint}
use Rattle.strip.specs.Reading.{items_at, poly_at, polygon_at, nav_portal_at, point_at, head_at}
use Rattle.strip.specs.Rows.{after, polygons_at, after_polygons, portals_at, points_at}
use Rattle.strip.specs.Scan.{Rest, Scanned, polygon_rank, cell_rank, portal_rank, point_rank, on_record, with_polygon, with_portal, with_point, with_head, rest_from, rest_at, scan}
use Rattle.strip.specs.Laid.{cell_counts, first_portal, first_point, cell_at}
pub use Rattle.strip.specs.Laid.{Well}
use Rattle.strip.specs.Outcome.{values, shown, refusal_of, paper}
use Rattle.strip.specs.Check.{on_cell}
use Rattle.strip.specs.Checked.{counts_of, strip_outcome}
use Rattle.strip.specs.declared.Counts.{Counts}
use Rattle.strip.specs.declared.Refusal.{Refusal}
use Rattle.std.specs.Prelude.{Result, Ok, Err}
use Rattle.strip.specs.Reasons.{reason_number}
use Rattle.std.specs.Prelude.{Result}
use Rattle.strip.specs.declared.Record.{Record}
use Rattle.strip.proofs.Steps.{items_length}
use Rattle.strip.proofs.Judged.{Judged, cell, polygon, portal, point, end, bad, judged, rest_step}

pub record Laid (s : List ℕ) (at rank : ℕ) (ps : List NavPoly) (qs : List NavPortal) (ts : List NavPoint) : Type 0 where
  pub polys : ps ≡ polygons_at s at (length ps)
  pub portals : qs ≡ portals_at s (after_polygons s at (length ps)) (length qs)
  pub points : ts ≡ points_at s (after_polygons s at (length ps) + 11 * length qs) (length ts)
  pub length_is : length s ≡ after_polygons s at (length ps) + 11 * length qs + 4 * length ts + 1
  pub no_polys : portal_rank ≤ rank → length ps ≡ 0
  pub no_portals : point_rank ≤ rank → length qs ≡ 0

abbrev pub LaidRest : List ℕ → ℕ → ℕ → Rest → Type 0
LaidRest s at rank (Rest.good ps qs ts) = Laid s at rank ps qs ts
LaidRest s at rank (Rest.bad place) = Unit

module _ (s : List ℕ) (at rank : ℕ) where
  laid_polygon : rank ≤ cell_rank → (r : Rest) → LaidRest s (poly_at s at).next polygon_rank r → LaidRest s at rank (with_polygon (polygon_at s at) r)
  unfolding items_at after
  laid_polygon o (Rest.good ps qs ts) h =
      record {
        polys = ap (λ (l : List NavPoly). polygon_at s at ∷ l) h.polys;
        portals = h.portals;
        points = h.points;
        length_is = h.length_is;
        no_polys = λ k. absurd (omega arith);
        no_portals = λ k. absurd (omega arith);
      }
  laid_polygon o (Rest.bad place) h = tt

  laid_portal : rank ≤ portal_rank → (r : Rest) → LaidRest s (at + 11) portal_rank r → LaidRest s at rank (with_portal (nav_portal_at s at) r)
  unfolding items_at after
  laid_portal o (Rest.good [] qs ts) h =
      record {
        polys = refl;
        portals = ap (λ (l : List NavPortal). nav_portal_at s at ∷ l) h.portals;
        points = h.points ∙ ap (λ n. points_at s n (length ts)) (omega arith);
        length_is = h.length_is ∙ omega arith;
        no_polys = λ k. refl;
        no_portals = λ k. absurd (omega arith);
      }
  laid_portal o (Rest.good (p ∷ ps) qs ts) h = absurd (omega (arith, h.no_polys (omega arith)))
  laid_portal o (Rest.bad place) h = tt

  laid_point : rank ≤ point_rank → (r : Rest) → LaidRest s (at + 4) point_rank r → LaidRest s at rank (with_point (point_at s at) r)
  unfolding items_at after
  laid_point o (Rest.good [] [] ts) h =
      record {
        polys = refl;
        portals = refl;
        points = ap (λ (l : List NavPoint). point_at s at ∷ l) (h.points ∙ ap (λ n. points_at s n (length ts)) (omega arith)) ∙ ap (λ n. points_at s n (suc (length ts))) (omega arith);
        length_is = h.length_is ∙ omega arith;
        no_polys = λ k. refl;
        no_portals = λ k. refl;
      }
  laid_point o (Rest.good [] (q ∷ qs) ts) h = absurd (omega (arith, h.no_portals (omega arith)))
  laid_point o (Rest.good (p ∷ ps) qs ts) h = absurd (omega (arith, h.no_polys (omega arith)))
  laid_point o (Rest.bad place) h = tt

  laid_end : at < length s → length s ≤ at + 1 → LaidRest s at rank (Rest.good [] [] [])
  unfolding items_at after
  laid_end h k =
      record { polys = refl; portals = refl; points = refl; length_is = omega arith; no_polys = λ k. refl; no_portals = λ k. refl }

  laid_on : (go : ℕ → ℕ → Rest) → ((n l : ℕ) → 1 ≤ l → LaidRest s n l (go n l)) → 1 ≤ rank
      → {r : Result Record ℕ} → Judged s at rank r → LaidRest s at rank (on_record r go s at)
  laid_on go h o (cell k l r) = absurd (omega arith)
  laid_on go h o (polygon k l r t) = laid_polygon l.to (go (poly_at s at).next polygon_rank) (h _ _ (omega arith))
  laid_on go h o (portal k l r t) = laid_portal l.to (go (at + 11) portal_rank) (h _ _ (omega arith))
  laid_on go h o (point k l r) = laid_point l.to (go (at + 4) point_rank) (h _ _ (omega arith))
  laid_on go h o (end k l r t) = laid_end r t
  laid_on go h o (bad place) = tt

pub laid_from : (t : ℕ) (s : List ℕ) (at rank : ℕ) → 1 ≤ rank → LaidRest s at rank (rest_from t s at rank)
unfolding rest_from
laid_from zero s at rank h = tt
laid_from (suc t) s at rank h = laid_on s at rank (rest_from t s) (λ n l. laid_from t s n l) h (judged s at rank)

-- a cell and where its parts stand
pub record LaidOut (s : List ℕ) (c : Cell) : Type 0 where
  pub head : c.head ≡ head_at s 0
  pub long : 14 ≤ length s
  pub body : Laid s 14 cell_rank c.polys c.portals c.points

abbrev pub LaidCell : List ℕ → Scanned → Type 0
LaidCell s (Scanned.ok c) = LaidOut s c
LaidCell s (Scanned.fault number place) = Unit

laid_head : (s : List ℕ) (r : Rest) → 14 ≤ length s → LaidRest s 14 cell_rank r → LaidCell s (with_head (head_at s 0) r)
laid_head s (Rest.good ps qs ts) k h = record { head = refl; long = k; body = h }
laid_head s (Rest.bad place) k h = tt

laid_first : (s : List ℕ) {r : Result Record ℕ} → Judged s 0 0 r → LaidCell s (with_head (head_at s 0) (on_record r (rest_at s) s 0))
unfolding rest_at
laid_first s (cell k l r) = laid_head s (rest_at s 14 cell_rank) (omega arith) (laid_from (suc (length s - 14)) s 14 cell_rank (omega arith))
laid_first s (polygon k l r t) = absurd (omega arith)
laid_first s (portal k l r t) = absurd (omega arith)
laid_first s (point k l r) = absurd (omega arith)
laid_first s (end k l r t) = absurd (omega arith)
laid_first s (bad place) = tt

pub laid_out : (s : List ℕ) → LaidCell s (scan s)
unfolding scan
laid_out s = rw (rest_step s 0 0) (laid_first s (judged s 0 0))

-- the cell that `scan` finds is the one that stands where its counts say
pub cell_at_lem : (s : List ℕ) (c : Cell) → LaidOut s c → c ≡ cell_at s (cell_counts c)
cell_at_lem s c l = rw (← l.head, ← l.body.polys, ← l.body.portals, ← l.body.points)

well_on : (s : List ℕ) (n : Counts) (d : Scanned) → scan s ≡ d → LaidCell s d → values n ≡ shown (on_cell counts_of d) → Well s n
well_on s n (Scanned.ok c) e l k =
    let same : cell_counts c ≡ n = cc in
    rw (← same) (record { is = e ∙ ap Scanned.ok (cell_at_lem s c l); length_is = l.body.length_is; long = l.long })
well_on s n (Scanned.fault number place) e l k = let z : ◌≡◌ {A = ℕ} 0 1 = cc in absurd (omega arith)

-- the answer's promise, and which case it is
pub well : (s : List ℕ) (n : Counts) (r : Result Counts Refusal) → paper r ≡ shown (strip_outcome s) → r ≡ Ok n → Well s n
well s n r k e = well_on s n (scan s) refl (laid_out s) (rw e at k)

-- a strip by the counts of the cell that it scans to
pub well_cell : (s : List ℕ) (c : Cell) → scan s ≡ Scanned.ok c → (n : Counts) → n ≡ cell_counts c → Well s n
well_cell s c e n en = rw en (well_on s (cell_counts c) (Scanned.ok c) e (rw e at (laid_out s)) refl)

-- whichever cell it scans to, it is that one
pub cell_is : (s : List ℕ) {n : Counts} → Well s n → (c : Cell) → scan s ≡ Scanned.ok c → c ≡ cell_at s n
cell_is s {n} w c e = let same : Scanned.ok c ≡ Scanned.ok (cell_at s n) = sym e ∙ w.is in cc same

-- and the counts of the cell of such a strip are those
pub counts_back : (s : List ℕ) (n : Counts) → cell_counts (cell_at s n) ≡ n
counts_back s n =
    rw (items_length (polygon_at s) (λ x. (poly_at s x).next) n.polys 14, items_length (nav_portal_at s) (λ x. x + 11) n.portals (first_portal s n), items_length (point_at s) (λ x. x + 4) n.points (first_point s n))

refused_on : (f : Refusal) (d : Scanned) → refusal_of f ≡ shown (on_cell counts_of d) → d ≡ Scanned.fault (reason_number f.reason) f.place
refused_on f (Scanned.ok c) k = let z : ◌≡◌ {A = ℕ} 0 1 = cc in absurd (omega arith)
refused_on f (Scanned.fault number place) k = cc

pub not_well : (s : List ℕ) (f : Refusal) (r : Result Counts Refusal) → paper r ≡ shown (strip_outcome s) → r ≡ Err f → scan s ≡ Scanned.fault (reason_number f.reason) f.place
not_well s f r k e = refused_on f (scan s) (rw e at k)
