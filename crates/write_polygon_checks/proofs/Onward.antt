-- Polygon after polygon: what is done after one of them and after the rest is done after all. Assumes nothing.
use Prim.Native.Nat.{ℕ, ◌+◌, ◌*◌, ◌-◌, ◌≤◌, ◌<◌}
use native.Mathlib.Omega.{arith}
use native.Mathlib.Nat.{add-zero, sub-zero}
use mathlib.Core.Bool.{◌||◌, false≢true}
use mathlib.Core.Path.{◌≡◌, refl, ap, sym, ◌∙◌}
use mathlib.Core.List.{List, [], ◌∷◌, ◌++◌, append_assoc}
use lib.ListN.{length, take, drop, length-append}
use lib.Dec.{ltb}
use borrow.Author.Tests.{lt-ltb, le-ltb, ltb-false}
use Rattle.math.specs.declared.vec3.Vec3.{Vec3 as Floats}
use Rattle.std.specs.Prelude.{Result, Ok, Err, IsOk}
use Rattle.strip.specs.declared.Reason.{Reason}
use Rattle.strip.specs.declared.Reason.TheVariants.{ManyLinksOfPolygon}
use Rattle.strip.specs.declared.Refusal.{Refusal}
use Rattle.strip.specs.Cell.{NavPoly}
use Rattle.strip.specs.Reading.{poly_at, polygon_of, polygon_at}
use Rattle.strip.specs.Rows.{polygons_at, after_polygons}
use Rattle.strip.specs.declared.Poly.{Poly}
use Rattle.strip.proofs.Lengths.{vertex_count_lem, link_count}
use Rattle.strip.proofs.Steps.{items_done, polygons_turn, parts, after_polygon, after_ge, next_inside}
use Rattle.distinct.specs.Distinct.{distinct_from}
use Rattle.distinct.proofs.Laws.{numbers_append}
use Rattle.distinct.proofs.Left.{drop_more}
use Rattle.write_vertices.specs.Table.{met}
use Rattle.write_pages.specs.Items.{Corner, gather, corners_in, corners, triples, named, links_of}
use Rattle.write_pages.specs.Checks.{first_fault, fault_if, at, corners_fault, polygon_fault, polygons_verdict}
use Rattle.distinct.proofs.Final.{distinct_append}
use Rattle.write_pages.proofs.Placed.{length_corners}
use Rattle.write_pages.proofs.Accepted.{or_false, triples_append, named_append}
use Rattle.write_pages.proofs.Firsts.{passed, first_none, first_some, first_last, first_two, at_none}
use Rattle.write_corner_checks.specs.Steps.{HasFault, TablesReady, Added, CornersDone, behind_table}
use Rattle.write_polygon_checks.specs.Steps.{run_fault, PolygonDone, PolygonJudged, PolygonsDone}
use Rattle.write_corner_checks.specs.declared.Tables.{Tables}
use Rattle.write_polygon_checks.specs.declared.Decided.{Decided}
use Rattle.write_corner_checks.proofs.Faults.{not_ok, passes, passed_none, refuses, refused_some}
use Rattle.write_corner_checks.proofs.Corners.{nothing_added, later}

-- ---- lists in a row

added_append : (w w' w'' ids ids' ids'' : List ℕ) (b m : ℕ) (t t' t'' : Tables) (item : ℕ) (ks ls : List Corner)
    → Added w w' ids ids' b m t t' item ks → Added w' w'' ids' ids'' b m t' t'' (item + length ks) ls → Added w w'' ids ids'' b m t t'' item (ks ++ ls)
added_append w w' w'' ids ids' ids'' b m t t' t'' item ks ls g h =
    let sum : item + length (ks ++ ls) ≡ item + length ks + length ls = omega (arith, length-append ks ls) in
    record {
      now_met = h.now_met ∙ rw (g.now_met, triples_append ks ls, distinct_append (met w b t.vertices) (triples ks) (triples ls));
      now_ids = h.now_ids ∙ rw (g.now_ids, named_append ks ls, distinct_append (take t.areas ids) (named ks) (named ls));
      indices = rw sum (h.indices ∙ rw (g.indices, g.now_met, triples_append ks ls, numbers_append (met w b t.vertices) (triples ks) (triples ls), append_assoc));
    }

-- ---- one polygon

module _ (bb-min bb-size : Floats) (w ids : List ℕ) (b m : ℕ) (t : Tables) (start : ℕ) (q : NavPoly) where
  -- 12 and 13 before the corners
  in_order : polygon_fault bb-min bb-size (met w b t.vertices) (take t.areas ids) start q
      ≡ first_fault (run_fault (length q.vertices) start ∷ corners_fault (met w b t.vertices) (take t.areas ids) (corners_in bb-min bb-size q) ∷ fault_if (ltb 7 (length q.links)) 16 ∷ [])
  unfolding polygon_fault
  in_order = first_two _ _ _

  module _ {A : Type 0} (f : Result A Reason) (ef : HasFault f (run_fault (length q.vertices) start)) where
    -- nothing was touched, whatever the tables hold
    pub bad_run : (e : Reason) → f ≡ Err e → PolygonJudged bb-min bb-size w w ids ids b m t t start q (Err e)
    bad_run e er = record {
      fault = λ place rest. (rw er at (ef place rest)) ∙ ap (λ (k : ℕ). at place k rest) (sym (in_order ∙ first_some _ _ (refused_some f _ ef e er).1));
      long = refl;
      back = refl;
      ready = λ ok. absurd (false≢true ok);
      least = λ ok. absurd (false≢true ok);
      added = λ ok. absurd (false≢true ok);
    }

    -- and tables that were ready are
    pub bad_run_ready : TablesReady w ids b m t.vertices start → (e : Reason) → f ≡ Err e → PolygonDone bb-min bb-size w w ids ids b m t t start q (Err e)
    bad_run_ready as_before e er =
        let said = bad_run e er in
        record {
          fault = said.fault;
          long = said.long;
          back = said.back;
          ready = later w ids b m t.vertices start (start + length q.vertices) (omega arith) as_before;
          least = said.least;
          added = said.added;
        }

    module _ (a : A) (good : f ≡ Ok a) (room : start + length q.vertices ≤ m) (w' ids' : List ℕ) (t' : Tables) (r : Result ℕ Reason) (d : CornersDone w w' ids ids' b m t t' start (corners_in bb-min bb-size q) r) where
      from_corners : polygon_fault bb-min bb-size (met w b t.vertices) (take t.areas ids) start q
          ≡ first_fault (corners_fault (met w b t.vertices) (take t.areas ids) (corners_in bb-min bb-size q) ∷ fault_if (ltb 7 (length q.links)) 16 ∷ [])
      from_corners = in_order ∙ first_none _ _ (passed_none f _ ef a good)

      long_enough : start + length (corners_in bb-min bb-size q) ≡ start + length q.vertices
      long_enough = omega (arith, length_corners bb-min bb-size q.vertices q.edges)

      rest_same : drop m (behind_table w' b m) ≡ drop m (behind_table w b m)
      rest_same = drop_more (start + length (corners_in bb-min bb-size q)) m (omega (arith, long_enough)) (behind_table w' b m) (behind_table w b m) d.back

      ready_after : TablesReady w' ids' b m t'.vertices (start + length q.vertices)
      ready_after = rw long_enough at d.ready

      pub bad_corner : (e : Reason) → r ≡ Err e → PolygonDone bb-min bb-size w w' ids ids' b m t t' start q (Err e)
      bad_corner e er = record {
        fault = λ place rest. (rw er at (d.fault place rest)) ∙ ap (λ (k : ℕ). at place k rest) (sym (from_corners ∙ first_some _ _ (refused_some _ _ d.fault e er).1));
        long = d.long;
        back = rest_same;
        ready = ready_after;
        least = λ ok. absurd (false≢true ok);
        added = λ ok. absurd (false≢true ok);
      }

      module _ (u : ℕ) (none : r ≡ Ok u) where
        -- only 16 is left
        only_links : polygon_fault bb-min bb-size (met w b t.vertices) (take t.areas ids) start q ≡ fault_if (ltb 7 (length q.links)) 16
        only_links = from_corners ∙ first_none _ _ (passed_none _ _ d.fault u none) ∙ first_last _

        pub many_links : 7 < length q.links → PolygonDone bb-min bb-size w w' ids ids' b m t t' start q (Err ManyLinksOfPolygon)
        many_links h = record {
          fault = refuses {A = ℕ} _ _ ManyLinksOfPolygon refl (only_links ∙ rw (lt-ltb 7 (length q.links) h)) (λ z. omega arith);
          long = d.long;
          back = rest_same;
          ready = ready_after;
          least = λ ok. absurd (false≢true ok);
          added = λ ok. absurd (false≢true ok);
        }

        pub polygon_fine : length q.links ≤ 7 → PolygonDone bb-min bb-size w w' ids ids' b m t t' start q (Ok u)
        polygon_fine h = record {
          fault = passes _ _ u refl (only_links ∙ rw (le-ltb 7 (length q.links) h));
          long = d.long;
          back = rest_same;
          ready = ready_after;
          least = λ ok. ltb-false (length q.vertices) 3 (or_false _ _ (passed (ltb (length q.vertices) 3 || ltb 2047 (length q.vertices)) 11 _ (passed_none f _ ef a good))).0;
          added = λ ok. d.added (rw none refl);
        }

pub judged : {bb-min bb-size : Floats} {w w' ids ids' : List ℕ} {b m : ℕ} {t t' : Tables} {start : ℕ} {p : NavPoly} {r : Result ℕ Reason}
    → PolygonDone bb-min bb-size w w' ids ids' b m t t' start p r → PolygonJudged bb-min bb-size w w' ids ids' b m t t' start p r
judged d = record { fault = d.fault; long = d.long; back = d.back; ready = λ ok. d.ready; least = d.least; added = d.added }

-- ---- all polygons

module _ (bb-min bb-size : Floats) (w ids : List ℕ) (b m : ℕ) (t : Tables) (start k l : ℕ) where
  none_left : (u : ℕ) → TablesReady w ids b m t.vertices start → start ≤ m
      → PolygonsDone bb-min bb-size w w ids ids b m t start k l [] (Ok (record { tables = t; corners = start; links = l; pushed = u }))
  unfolding polygons_verdict gather
  none_left u r h =
      let e : Decided = record { tables = t; corners = start; links = l; pushed = u } in
      let same : (d : Decided) → ◌≡◌ {A = Result Decided Refusal} (Ok e) (Ok d) → e ≡ d = λ d z. cc in
      record {
        verdict = λ rest. refl;
        long = refl;
        back = refl;
        ready = λ d z. rw (← same d z) r;
        few = λ d z. rw (← same d z) h;
        many = λ d z. rw (← same d z) (omega arith);
        corner_count = λ d z. rw (← same d z) (sym (add-zero start));
        link_count = λ d z. rw (← same d z) (sym (add-zero l));
        added = λ d z. rw (← same d z) (nothing_added w ids b m t start);
      }

  module _ (w' ids' : List ℕ) (t' : Tables) (p : NavPoly) (ps : List NavPoly) (r : Result ℕ Reason) (d : PolygonJudged bb-min bb-size w w' ids ids' b m t t' start p r) where
    stopped : (e : Reason) → r ≡ Err e → PolygonsDone bb-min bb-size w w' ids ids' b m t start k l (p ∷ ps) (Err (record { reason = e; place = k }))
    unfolding polygons_verdict
    stopped e er = record {
      verdict = λ rest. rw er at (d.fault k (polygons_verdict bb-min bb-size (distinct_from (met w b t.vertices) (triples (corners_in bb-min bb-size p))) (distinct_from (take t.areas ids) (named (corners_in bb-min bb-size p))) (start + length p.vertices) (k + 1) ps rest));
      long = d.long;
      back = d.back;
      ready = λ q z. not_ok refl z;
      few = λ q z. not_ok refl z;
      many = λ q z. not_ok refl z;
      corner_count = λ q z. not_ok refl z;
      link_count = λ q z. not_ok refl z;
      added = λ q z. not_ok refl z;
    }

    went_on : (u : ℕ) → r ≡ Ok u → (w'' ids'' : List ℕ) (q : Result Decided Refusal)
        → PolygonsDone bb-min bb-size w' w'' ids' ids'' b m t' (start + length p.vertices) (k + 1) (l + length p.links) ps q
        → PolygonsDone bb-min bb-size w w'' ids ids'' b m t start k l (p ∷ ps) q
    unfolding polygons_verdict gather
    went_on u none w'' ids'' q g =
        let ok : IsOk r = rw none refl in
        let h = d.added ok in
        let count : start + length (corners_in bb-min bb-size p) ≡ start + length p.vertices = omega (arith, length_corners bb-min bb-size p.vertices p.edges) in
        record {
          verdict = λ rest. g.verdict rest ∙ (rw (h.now_met, h.now_ids)) ∙ sym (at_none k _ _ (passed_none _ _ d.fault u none));
          long = g.long ∙ d.long;
          back = g.back ∙ d.back;
          ready = g.ready;
          few = g.few;
          many = λ e z. omega (arith, g.many e z, d.least ok);
          corner_count = λ e z. omega (arith, g.corner_count e z, count, length-append (corners_in bb-min bb-size p) (corners bb-min bb-size ps));
          link_count = λ e z. omega (arith, g.link_count e z, length-append p.links (links_of ps));
          added = λ e z.
              added_append w w' w'' ids ids' ids'' b m t t' e.tables start (corners_in bb-min bb-size p) (corners bb-min bb-size ps) h (rw (← count) at (g.added e z));
        }

-- before polygon i, at `at`: what is done with the polygons that are left is done with all
pub record Onward (s : List ℕ) (bb-min bb-size : Floats) (n b m : ℕ) (t₀ : Tables) (w₀ ids₀ w ids : List ℕ) (t : Tables) (at start l i : ℕ) : Type 0 where
  pub within : i ≤ n
  pub inside : after_polygons s at (n - i) ≤ length s
  pub ahead : 3 * start + 14 ≤ at
  pub links : l ≤ at
  pub ready : TablesReady w ids b m t.vertices start
  pub long : length w ≡ length w₀
  pub rest : (w' ids' : List ℕ) (r : Result Decided Refusal) → PolygonsDone bb-min bb-size w w' ids ids' b m t start i l (polygons_at s at (n - i)) r
      → PolygonsDone bb-min bb-size w₀ w' ids₀ ids' b m t₀ 0 0 0 (polygons_at s 14 n) r

module _ (s : List ℕ) (bb-min bb-size : Floats) (n b m : ℕ) (t₀ : Tables) (w₀ ids₀ : List ℕ) where
  pub begin : after_polygons s 14 n ≤ length s → TablesReady w₀ ids₀ b m t₀.vertices 0 → Onward s bb-min bb-size n b m t₀ w₀ ids₀ w₀ ids₀ t₀ 14 0 0 0
  begin h r = record {
    within = omega arith;
    inside = rw (sub-zero n) h;
    ahead = omega arith;
    links = omega arith;
    ready = r;
    long = refl;
    rest = λ w' ids' q d. rw (sub-zero n) at d;
  }

  module _ (w ids : List ℕ) (t : Tables) (at start l i : ℕ) (g : Onward s bb-min bb-size n b m t₀ w₀ ids₀ w ids t at start l i) (h : i < n) (p : Poly) (e : p ≡ poly_at s at) where
    pub next_in : p.next ≤ length s
    next_in = next_inside s at i n (length s) h g.inside p e

    module _ (w' ids' : List ℕ) (t' : Tables) (r : Result ℕ Reason) (d : PolygonJudged bb-min bb-size w w' ids ids' b m t t' start (polygon_of s p) r) where
      pub stop : (q : Reason) → r ≡ Err q
          → PolygonsDone bb-min bb-size w₀ w' ids₀ ids' b m t₀ 0 0 0 (polygons_at s 14 n) (Err (record { reason = q; place = i }))
      stop q er = g.rest w' ids' _ (rw (polygons_turn s at i n h p e) (stopped bb-min bb-size w ids b m t start i l w' ids' t' (polygon_of s p) _ r d q er))

      pub again : (u : ℕ) → r ≡ Ok u → Onward s bb-min bb-size n b m t₀ w₀ ids₀ w' ids' t' p.next (start + p.vertices) (l + p.links) (i + 1)
      unfolding polygon_of
      again u none =
          let q = parts s at p e in
          record {
            within = omega arith;
            inside = omega (arith, after_polygon s at i n h p e, g.inside);
            ahead = omega (arith, g.ahead, q);
            links = omega (arith, g.links, q);
            ready = rw (vertex_count_lem s p) at (d.ready (rw none refl));
            long = d.long ∙ g.long;
            rest = λ w'' ids'' o k.
                g.rest w'' ids'' o
                (rw (polygons_turn s at i n h p e) (went_on bb-min bb-size w ids b m t start i l w' ids' t' (polygon_of s p) _ r d u none w'' ids'' o (rw (← vertex_count_lem s p, ← link_count s p) at k)));
          }

  pub done : (w ids : List ℕ) (t : Tables) (at start l u i : ℕ) → Onward s bb-min bb-size n b m t₀ w₀ ids₀ w ids t at start l i → n ≤ i → length s ≤ 3 * m + 2
      → PolygonsDone bb-min bb-size w₀ w ids₀ ids b m t₀ 0 0 0 (polygons_at s 14 n) (Ok (record { tables = t; corners = start; links = l; pushed = u }))
  done w ids t at start l u i g h fit =
      let few : start ≤ m = omega (arith, g.ahead, g.inside, after_ge (n - i) s at) in
      g.rest w ids _ (rw (items_done (polygon_at s) (λ x. (poly_at s x).next) at i n h) (none_left bb-min bb-size w ids b m t start i l u g.ready few))
