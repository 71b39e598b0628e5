-- Well-formed strips and cells in range are one another's: `scan_exact`, one cell for a strip and one strip for a cell. Assumes nothing.
use Prim.Native.Nat.{ℕ, zero, suc, ◌+◌, ◌-◌, ◌<◌}
use mathlib.Core.Path.{◌≡◌, ap, sym, ◌∙◌}
use mathlib.Core.Bool.{true, ◌&&◌}
use mathlib.Core.List.{List}
use mathlib.Core.Logic.{◌↔◌}
use native.Mathlib.Omega.{arith}
use lib.ListN.{length}
use lib.Dec.{ltb}
use borrow.Author.Tests.{ltb-true}
use Rattle.strip.specs.Cell.{Cell, NavPoly, NavPortal, NavPoint, plain, encode}
use Rattle.strip.specs.Fits.{All, HalfFits, EdgeFits, PolygonFits, PortalFits, PointFits, Fits, Words, InRange}
use Rattle.strip.specs.Reading.{word, items_at, words_at, edges_at, half_at, poly_at, polygon_of, polygon_at, nav_portal_at, point_at, head_at}
use Rattle.strip.specs.Scan.{Rest, Scanned, polygon_rank, cell_rank, portal_rank, point_rank, all_below, edges_fit, poly_fits, portal_fits, on_record, with_polygon, with_portal, with_point, with_head, rest_from, rest_at, scan}
use Rattle.std.specs.Prelude.{Result}
use Rattle.strip.specs.declared.Record.{Record}
use Rattle.strip.proofs.Judged.{Judged, cell, polygon, portal, point, end, bad, judged, both}
use Rattle.strip.proofs.Steps.{items_length}
use Rattle.strip.proofs.Encode.{encode_scan}
use Rattle.strip.proofs.Readback.{scan_encode}

module _ (s : List ℕ) where
  below_all : (n at : ℕ) → all_below s at n 65536 ≡ true → All (λ w. w < 65536) (words_at s at n)
  unfolding all_below items_at
  below_all zero at e = tt
  below_all (suc n) at e = let b = both _ _ e in (ltb-true _ _ b.0, below_all n (at + 1) b.1)

  half_fits : (at : ℕ) → word s (at + 2) < 16777216 → HalfFits (half_at s at)
  half_fits at h = record { unk3 = omega arith; unk2 = omega arith }

  fit_all : (n at : ℕ) → edges_fit s at n ≡ true → All EdgeFits (edges_at s at n)
  unfolding edges_fit items_at
  fit_all zero at e = tt
  fit_all (suc n) at e =
      let b = both _ _ e in
      let d = both _ _ b.1 in
      let j : at + 3 + 2 ≡ at + 5 = omega arith in (
        record { a = half_fits at (ltb-true _ _ b.0); b = half_fits (at + 3) (rw j (ltb-true _ _ d.0)) },
        fit_all n (at + 6) d.1,
      )

  polygon_fits : (at : ℕ) → poly_fits s (poly_at s at) ≡ true → PolygonFits (polygon_at s at)
  unfolding poly_fits poly_at polygon_of
  polygon_fits at e =
      let p = poly_at s at in
      let b : (ltb (word s p.flags_at) 65536 ≡ true) × ((all_below s p.link_at p.links 65536 && edges_fit s p.edge_at p.edges) ≡ true) = both _ _ e in
      let d : (all_below s p.link_at p.links 65536 ≡ true) × (edges_fit s p.edge_at p.edges ≡ true) = both _ _ b.1 in
      record {
        link_count = rw items_length (omega arith);
        vertex_count = rw items_length (omega arith);
        edge_count = rw items_length (omega arith);
        flags0 = ltb-true _ _ b.0;
        links = below_all _ _ d.0;
        edges = fit_all _ _ d.1;
      }

  portal_fits_lem : (at : ℕ) → portal_fits s at ≡ true → PortalFits (nav_portal_at s at)
  unfolding portal_fits nav_portal_at
  portal_fits_lem at e =
      let b : (ltb (word s (at + 1)) 65536 ≡ true) × (ltb (word s (at + 10)) 256 ≡ true) = both _ _ e in
      record {
        kind = omega arith;
        angle = omega arith;
        flags_unk = ltb-true _ _ b.0;
        poly_from = omega arith;
        area_from = omega arith;
        area_unk = ltb-true _ _ b.1;
      }

  point_fits : (at : ℕ) → PointFits (point_at s at)
  unfolding point_at
  point_fits at = record { angle = omega arith; kind = omega arith }

-- the lists of the rest
record Lists (ps : List NavPoly) (qs : List NavPortal) (ts : List NavPoint) : Type 0 where
  polys : All PolygonFits ps
  portals : All PortalFits qs
  points : All PointFits ts

abbrev FitsRest : Rest → Type 0
FitsRest (Rest.good ps qs ts) = Lists ps qs ts
FitsRest (Rest.bad place) = Unit

fits_polygon : (p : NavPoly) → PolygonFits p → (r : Rest) → FitsRest r → FitsRest (with_polygon p r)
fits_polygon p f (Rest.good ps qs ts) h = record { polys = (f, h.polys); portals = h.portals; points = h.points }
fits_polygon p f (Rest.bad place) h = tt

fits_portal : (q : NavPortal) → PortalFits q → (r : Rest) → FitsRest r → FitsRest (with_portal q r)
fits_portal q f (Rest.good ps qs ts) h = record { polys = h.polys; portals = (f, h.portals); points = h.points }
fits_portal q f (Rest.bad place) h = tt

fits_point : (t : NavPoint) → PointFits t → (r : Rest) → FitsRest r → FitsRest (with_point t r)
fits_point t f (Rest.good ps qs ts) h = record { polys = h.polys; portals = h.portals; points = (f, h.points) }
fits_point t f (Rest.bad place) h = tt

fits_on : (s : List ℕ) (at rank : ℕ) (go : ℕ → ℕ → Rest) → ((n l : ℕ) → FitsRest (go n l)) → {r : Result Record ℕ} → Judged s at rank r → FitsRest (on_record r go s at)
fits_on s at rank go h (cell k l r) = h (at + 14) cell_rank
fits_on s at rank go h (polygon k l r t) = fits_polygon (polygon_at s at) (polygon_fits s at t) (go (poly_at s at).next polygon_rank) (h _ _)
fits_on s at rank go h (portal k l r t) = fits_portal (nav_portal_at s at) (portal_fits_lem s at t) (go (at + 11) portal_rank) (h _ _)
fits_on s at rank go h (point k l r) = fits_point (point_at s at) (point_fits s at) (go (at + 4) point_rank) (h _ _)
fits_on s at rank go h (end k l r t) = record { polys = tt; portals = tt; points = tt }
fits_on s at rank go h (bad place) = tt

fits_from : (t : ℕ) (s : List ℕ) (at rank : ℕ) → FitsRest (rest_from t s at rank)
unfolding rest_from
fits_from zero s at rank = tt
fits_from (suc t) s at rank = fits_on s at rank (rest_from t s) (λ n l. fits_from t s n l) (judged s at rank)

abbrev FitsCell : Scanned → Type 0
FitsCell (Scanned.ok c) = Fits c
FitsCell (Scanned.fault number place) = Unit

fits_head : (s : List ℕ) (r : Rest) → FitsRest r → FitsCell (with_head (head_at s 0) r)
fits_head s (Rest.good ps qs ts) h = record { polys = h.polys; portals = h.portals; points = h.points }
fits_head s (Rest.bad place) h = tt

fits_all : (s : List ℕ) → FitsCell (scan s)
unfolding scan rest_at
fits_all s = fits_head s (rest_at s 0 0) (fits_from (suc (length s - 0)) s 0 0)

-- A list of numbers scans to a cell exactly when the cell fits and the list is its strip.
pub scan_fits : (s : List ℕ) (c : Cell) → (scan s ≡ Scanned.ok c) ↔ (Fits c × (encode c ≡ s))
scan_fits s c = (λ e. (rw e at (fits_all s), encode_scan s c e), λ h. rw (← h.1) (scan_encode plain c h.0))

-- Of words: a strip is well formed exactly when it is the strip of a cell in range, and that is the cell that it stands for.
pub scan_exact : (s : List ℕ) → Words s → (c : Cell) → (scan s ≡ Scanned.ok c) ↔ (InRange c × (encode c ≡ s))
scan_exact s w c =
    let f = scan_fits s c in
    (λ e. let h = f.0 e in (record { fits = h.0; words = rw h.1 w }, h.1), λ h. f.1 (h.0.fits, h.1))

-- no two cells have one strip
pub encode_injective : (c d : Cell) → Fits c → Fits d → encode c ≡ encode d → c ≡ d
encode_injective c d f g e =
    let a = scan_encode plain c f in
    let b = scan_encode plain d g in
    let k : Scanned.ok c ≡ Scanned.ok d = sym a ∙ ap scan e ∙ b in
    cc
