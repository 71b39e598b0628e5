-- Corner after corner: what is done after one of them and after the rest is done after all. Assumes nothing.
use Prim.Native.Nat.{ℕ, suc, ◌+◌, ◌*◌, ◌-◌, ◌≤◌, ◌<◌}
use native.Mathlib.Omega.{arith}
use native.Mathlib.Decide.{dec_lt}
use native.Mathlib.Nat.{add-zero, sub-zero}
use mathlib.Core.Path.{◌≡◌, refl, ap, sym, ◌∙◌}
use mathlib.Core.Bool.{Bool, true, false, cond, false≢true}
use mathlib.Core.List.{List, [], ◌∷◌, append_assoc, append-nil}
use lib.ListN.{length}
use lib.Dec.{ltb}
use borrow.Author.Tests.{lt-ltb, le-ltb}
use Rattle.std.specs.Prelude.{Result, Ok, Err, IsOk}
use Rattle.strip.specs.declared.Reason.{Reason}
use Rattle.math.specs.declared.vec3.Vec3.{Vec3 as Floats}
use Rattle.strip.specs.Cell.{Vec3, NavEdge}
use Rattle.strip.specs.Reading.{word, vec_at, vecs_at, nav_edge_at, edges_at}
use Rattle.strip.proofs.Steps.{items_turn, items_done}
use Rattle.distinct.specs.Distinct.{distinct_from}
use Rattle.distinct.specs.Numbers.{numbers_from}
use Rattle.distinct.proofs.Left.{drop_more}
use Rattle.areas.specs.EdgeHalf.{adjacent_none}
use Rattle.write_pages.specs.Items.{Corner, no_edge, triple_in, corners_of, named}
use Rattle.write_pages.specs.Checks.{at, corner_fault, corners_fault}
use Rattle.write_pages.proofs.Firsts.{first_none, first_some, first_last}
use Rattle.write_corner_checks.specs.Steps.{area_or, TablesReady, Added, CornerDone, CornersDone, behind_table}
use Rattle.write_corner_checks.proofs.Faults.{passes, passed_none, refused_some}
use Rattle.write_corner_checks.specs.declared.Tables.{Tables}

pub later : (w ids : List ℕ) (b m n i j : ℕ) → i ≤ j → TablesReady w ids b m n i → TablesReady w ids b m n j
later w ids b m n i j h r = record { table = r.table; few = omega (arith, r.few); room = r.room; trees = r.trees; areas = r.areas }

module _ (w ids : List ℕ) (b m : ℕ) (t : Tables) (item : ℕ) where
  pub nothing_added : Added w w ids ids b m t t item []
  unfolding named distinct_from numbers_from
  nothing_added = record { now_met = refl; now_ids = refl; indices = rw (add-zero item, append-nil) }

  none_left : (u : ℕ) → TablesReady w ids b m t.vertices item → CornersDone w w ids ids b m t t item [] (Ok u)
  unfolding corners_fault
  none_left u r = record {
    fault = passes {A = ℕ} _ _ u refl refl;
    ready = later w ids b m t.vertices item (item + 0) (omega arith) r;
    long = refl;
    back = refl;
    added = λ ok. nothing_added;
  }

  module _ (w' ids' : List ℕ) (t' : Tables) (k : Corner) (ks : List Corner) (r : Result (Unit {0}) Reason) (d : CornerDone w w' ids ids' b m t t' item k.vertex k.edge.a.area k.edge.b.area r) where
    stopped : (e : Reason) → r ≡ Err e → CornersDone w w' ids ids' b m t t' item (k ∷ ks) (Err e)
    unfolding corners_fault corner_fault
    stopped e er = record {
      fault = λ place rest. (rw er at (d.fault place rest)) ∙ ap (λ (f : ℕ). at place f rest) (sym (first_some _ _ (refused_some _ _ d.fault e er).1));
      ready = later w' ids' b m t'.vertices (item + 1) (item + suc (length ks)) (omega arith) d.ready;
      long = d.long;
      back = drop_more (item + 1) (item + suc (length ks)) (omega arith) (behind_table w' b m) (behind_table w b m) d.back;
      added = λ ok. absurd (false≢true ok);
    }

    went_on : (u : Unit {0}) → r ≡ Ok u → (w'' ids'' : List ℕ) (t'' : Tables) (s : Result ℕ Reason) → CornersDone w' w'' ids' ids'' b m t' t'' (item + 1) ks s → CornersDone w w'' ids ids'' b m t t'' item (k ∷ ks) s
    unfolding corners_fault corner_fault named distinct_from numbers_from
    went_on u none w'' ids'' t'' s g =
        let ok : IsOk r = rw none refl in
        let sum : item + 1 + length ks ≡ item + suc (length ks) = omega arith in
        record {
          fault = λ place rest. g.fault place rest ∙ (rw (d.now_met ok, d.now_ids ok))
              ∙ ap (λ (f : ℕ). at place f rest) (sym (first_none _ _ (passed_none _ _ d.fault u none) ∙ first_last _));
          ready = rw sum at g.ready;
          long = g.long ∙ d.long;
          back = (rw sum at g.back) ∙ drop_more (item + 1) (item + suc (length ks)) (omega arith) (behind_table w' b m) (behind_table w b m) d.back;
          added = λ done.
              let a = g.added done in
              record {
                now_met = a.now_met ∙ (rw (d.now_met ok));
                now_ids = a.now_ids ∙ (rw (d.now_ids ok));
                indices = (rw sum at a.indices) ∙ rw (d.index ok, d.now_met ok, append_assoc);
              };
        }

-- ---- the corners as they stand in the strip

-- the edge at a position, where the polygon has more than i edges
abbrev pub edge_or : List ℕ → ℕ → ℕ → ℕ → NavEdge
edge_or s e i m = cond (ltb i m) (nav_edge_at s e) no_edge

module _ (s : List ℕ) (bb-min bb-size : Floats) (v e i n m : ℕ) (h : i < n) where
  edge_on : (vs : List Vec3) (a : Vec3)
      → corners_of bb-min bb-size (a ∷ vs) (edges_at s e (m - i)) ≡ record { vertex = triple_in bb-min bb-size a; edge = edge_or s e i m } ∷ corners_of bb-min bb-size vs (edges_at s (e + 6) (m - (i + 1)))
  unfolding corners_of
  edge_on vs a = elim (dec_lt i m) [
    | yes l ↦ rw (items_turn (nav_edge_at s) (λ x. x + 6) e i m l, lt-ltb i m l)
    | no l ↦
        let k : m ≤ i = omega arith in
        let k' : m ≤ i + 1 = omega arith in
        rw (items_done (nav_edge_at s) (λ x. x + 6) e i m k, items_done (nav_edge_at s) (λ x. x + 6) (e + 6) (i + 1) m k', le-ltb i m k)
  ]

  pub corners_turn : corners_of bb-min bb-size (vecs_at s v (n - i)) (edges_at s e (m - i))
      ≡ record { vertex = triple_in bb-min bb-size (vec_at s v); edge = edge_or s e i m } ∷ corners_of bb-min bb-size (vecs_at s (v + 3) (n - (i + 1))) (edges_at s (e + 6) (m - (i + 1)))
  corners_turn = rw (items_turn (vec_at s) (λ x. x + 3) v i n h) (edge_on _ _)

  area_a : (edge_or s e i m).a.area ≡ area_or s e i m
  unfolding area_or
  area_a = by_case (ltb i m)
    where
      by_case : (q : Bool) → (cond q (nav_edge_at s e) no_edge).a.area ≡ cond q (word s e) adjacent_none
      by_case true = refl
      by_case false = refl

  area_b : (edge_or s e i m).b.area ≡ area_or s (e + 3) i m
  unfolding area_or
  area_b = by_case (ltb i m)
    where
      by_case : (q : Bool) → (cond q (nav_edge_at s e) no_edge).b.area ≡ cond q (word s (e + 3)) adjacent_none
      by_case true = refl
      by_case false = refl

-- an area by the place and the edge that are meant, however they were computed
pub area_of : (s : List ℕ) (k : ℕ) {to j : ℕ} (place i : ℕ) {r : ℕ} → r ≡ area_or s place i k → place ≡ to → i ≡ j → r ≡ area_or s to j k
area_of s k place i h p q = rw (← p, ← q) h

-- before corner i of a polygon with n vertices at v₀ and k edges at e₀: what is done with the corners that are left is done with all
pub record Going (s : List ℕ) (bb-min bb-size : Floats) (n k v₀ e₀ b m start : ℕ) (t₀ : Tables) (w₀ ids₀ w ids : List ℕ) (t : Tables) (i : ℕ) : Type 0 where
  pub within : i ≤ n
  pub ready : TablesReady w ids b m t.vertices (start + i)
  pub long : length w ≡ length w₀
  pub rest : (w' ids' : List ℕ) (t' : Tables) (r : Result ℕ Reason)
      → CornersDone w w' ids ids' b m t t' (start + i) (corners_of bb-min bb-size (vecs_at s (v₀ + 3 * i) (n - i)) (edges_at s (e₀ + 6 * i) (k - i))) r
      → CornersDone w₀ w' ids₀ ids' b m t₀ t' start (corners_of bb-min bb-size (vecs_at s v₀ n) (edges_at s e₀ k)) r

module _ (s : List ℕ) (bb-min bb-size : Floats) (n k v₀ e₀ b m start : ℕ) (t₀ : Tables) (w₀ ids₀ : List ℕ) where
  pub begin : TablesReady w₀ ids₀ b m t₀.vertices start → Going s bb-min bb-size n k v₀ e₀ b m start t₀ w₀ ids₀ w₀ ids₀ t₀ 0
  begin r = record {
    within = omega arith;
    ready = rw (add-zero start) r;
    long = refl;
    rest = λ w' ids' t' q d. rw (add-zero start, add-zero v₀, add-zero e₀, sub-zero n, sub-zero k) at d;
  }

  module _ (w w' ids ids' : List ℕ) (t t' : Tables) (i x y z : ℕ) (g : Going s bb-min bb-size n k v₀ e₀ b m start t₀ w₀ ids₀ w ids t i) (h : i < n)
      (ex : x ≡ triple_in bb-min bb-size (vec_at s (v₀ + 3 * i))) (ey : y ≡ area_or s (e₀ + 6 * i) i k) (ez : z ≡ area_or s (e₀ + 6 * i + 3) i k)
      (r : Result (Unit {0}) Reason) (d : CornerDone w w' ids ids' b m t t' (start + i) x y z r) where
    abbrev v : ℕ
    v = v₀ + 3 * i

    abbrev e : ℕ
    e = e₀ + 6 * i

    here : Corner
    here = record { vertex = triple_in bb-min bb-size (vec_at s v); edge = edge_or s e i k }

    after : List Corner
    after = corners_of bb-min bb-size (vecs_at s (v + 3) (n - (i + 1))) (edges_at s (e + 6) (k - (i + 1)))

    done_here : CornerDone w w' ids ids' b m t t' (start + i) here.vertex here.edge.a.area here.edge.b.area r
    unfolding here
    done_here = rw (← ex, area_a s bb-min bb-size v e i n k h, area_b s bb-min bb-size v e i n k h, ← ey, ← ez) d

    turn : corners_of bb-min bb-size (vecs_at s v (n - i)) (edges_at s e (k - i)) ≡ here ∷ after
    unfolding here after
    turn = corners_turn s bb-min bb-size v e i n k h

    pub stop : (q : Reason) → r ≡ Err q → CornersDone w₀ w' ids₀ ids' b m t₀ t' start (corners_of bb-min bb-size (vecs_at s v₀ n) (edges_at s e₀ k)) (Err q)
    stop q er = g.rest w' ids' t' (Err q) (rw turn (stopped w ids b m t (start + i) w' ids' t' here after r done_here q er))

    pub again : (u : Unit {0}) → r ≡ Ok u → Going s bb-min bb-size n k v₀ e₀ b m start t₀ w₀ ids₀ w' ids' t' (i + 1)
    unfolding after
    again u none =
        let sum : start + i + 1 ≡ start + (i + 1) = omega arith in
        let three : v + 3 ≡ v₀ + 3 * (i + 1) = omega arith in
        let six : e + 6 ≡ e₀ + 6 * (i + 1) = omega arith in
        record {
          within = omega arith;
          ready = rw sum at d.ready;
          long = d.long ∙ g.long;
          rest = λ w'' ids'' t'' q j. g.rest w'' ids'' t'' q (rw turn (went_on w ids b m t (start + i) w' ids' t' here after r done_here u none w'' ids'' t'' q (rw (← sum, ← three, ← six) at j)));
        }

  pub done : (u : ℕ) (w ids : List ℕ) (t : Tables) (i : ℕ) → Going s bb-min bb-size n k v₀ e₀ b m start t₀ w₀ ids₀ w ids t i → n ≤ i
      → CornersDone w₀ w ids₀ ids b m t₀ t start (corners_of bb-min bb-size (vecs_at s v₀ n) (edges_at s e₀ k)) (Ok u)
  unfolding corners_of
  done u w ids t i g h = g.rest w ids t (Ok u) (rw (items_done (vec_at s) (λ x. x + 3) (v₀ + 3 * i) i n h) (none_left w ids b m t (start + i) u g.ready))
