-- The checks before the polygons, and what the polygons' loop leaves, as `decide` promises it. Assumes nothing.
use Prim.Native.Nat.{ℕ, zero, suc, ◌+◌, ◌*◌, ◌/◌, ◌≤◌, ◌<◌}
use native.Mathlib.Omega.{arith}
use native.Mathlib.Nat.{zero-add}
use mathlib.Core.Bool.{not}
use mathlib.Core.Path.{◌≡◌, refl, ap, sym, subst, ◌∙◌}
use mathlib.Core.List.{List, [], ◌∷◌, map}
use lib.ListN.{length, take, drop}
use lib.Seq.{drop-drop}
use lib.Dec.{ltb}
use borrow.Author.Tests.{ltb-false}
use Rattle.std.specs.Prelude.{Result, Ok, Err, IfOk}
use Rattle.strip.specs.Reasons.{reason_number}
use Rattle.strip.specs.Cell.{Head}
use Rattle.strip.specs.Box.{finite_box}
use Rattle.strip.specs.Reading.{head_at}
use Rattle.strip.specs.Rows.{polygons_at}
use Rattle.strip.specs.Scan.{Scanned, scan}
use Rattle.strip.specs.Laid.{cell_counts}
use Rattle.strip.specs.declared.Counts.{Counts}
use Rattle.strip.proofs.Lengths.{poly_count}
use Rattle.strip.proofs.Laid.{Well, cell_is, counts_back}
use Rattle.strip.specs.declared.Refusal.{Refusal}
use Rattle.cell_record.specs.Record.{record_of}
use Rattle.pushed.specs.Pushed.{pushed_in, vertices_of}
use Rattle.cell_record.specs.declared.CellRecord.{CellRecord}
use Rattle.distinct.specs.Distinct.{index_of, distinct_from}
use Rattle.distinct.specs.Numbers.{numbers_from}
use Rattle.distinct.proofs.Left.{drop_more}
use Rattle.distinct.proofs.Final.{numbers_at_the_end}
use Rattle.areas.specs.Areas.{seeded}
use Rattle.fields.specs.Bytes.{over}
use Rattle.write_vertices.specs.Table.{met, cleared, Table}
use Rattle.write_vertices.proofs.Clearing.{table_cleared, length_cleared, drop_cleared}
use Rattle.write_vertices.proofs.Trees.{trees_fit}
use Rattle.write_pages.specs.Items.{floats, Corner, corners, triples}
use Rattle.write_pages.specs.Checks.{Verdict, fault_if, first_fault, at}
use Rattle.write_pages.proofs.Firsts.{passed, at_none}
use Rattle.write_corner_checks.specs.Steps.{TablesReady}
use Rattle.write_polygon_checks.specs.Steps.{VerdictHas, PolygonsDone}
use Rattle.write_corner_checks.proofs.Faults.{not_ok}
use Rattle.write_polygon_checks.proofs.Said.{fine_none}
use Rattle.write_decide.specs.Decide.{on_polygons, before_leaves, on_scan, trees, most, indices_at, tables_end, Tabled, WellDone, DecideDone}
use Rattle.write_corner_checks.specs.declared.Tables.{Tables}
use Rattle.write_polygon_checks.specs.declared.Decided.{Decided}
use Rattle.write_decide.specs.declared.Decision.{Decision}

-- the trees of a strip of so many words
pub trees_in : (words : ℕ) → 14 ≤ words → (0 < trees words) × (trees words ≤ 65536) × (trees words ≤ words / 3)
trees_in words h = trees_fit (words / 3) (trees words) (omega arith) refl

-- ---- the cleared table: k words of work, as many as the trees or more

-- to clear the first of them again changes nothing
cleared_again : (w : List ℕ) (b k : ℕ) → b ≤ k → cleared (cleared w k) b ≡ cleared w k
unfolding cleared over
cleared_again w zero k h = refl
cleared_again [] (suc b) zero h = absurd (omega arith)
cleared_again (x ∷ w) (suc b) zero h = absurd (omega arith)
cleared_again [] (suc b) (suc k) h = refl
cleared_again (x ∷ w) (suc b) (suc k) h = ap (λ (l : List ℕ). 0 ∷ l) (cleared_again w b k (omega arith))

module _ (s w wc : List ℕ) (l14 : 14 ≤ length s) (l4 : 4 * length s ≤ length w) (k : ℕ) (all : trees (length s) ≤ k) (lk : k ≤ length w) (ec : wc ≡ cleared w k) where
  cleared_long : length wc ≡ length w
  cleared_long = rw ec (length_cleared w k lk)

  within : trees (length s) ≤ length wc
  within = omega (arith, cleared_long)

  same_table : cleared wc (trees (length s)) ≡ wc
  same_table = rw ec (cleared_again w (trees (length s)) k all)

  pub ready : (ids : List ℕ) → length ids ≡ 32 → TablesReady wc ids (trees (length s)) (most (length s)) 0 0
  ready ids li = record {
    table = subst (λ (t : List ℕ). Table t (trees (length s)) 0) same_table
        (table_cleared wc (trees (length s)) within (trees_in (length s) l14).0 (omega (arith, (trees_in (length s) l14).1)));
    few = omega arith;
    room = omega (arith, cleared_long, (trees_in (length s) l14).2);
    trees = omega arith;
    areas = li;
  }

  -- nothing behind the tables is cleared
  same_behind : k ≤ tables_end (length s) → drop (tables_end (length s)) wc ≡ drop (tables_end (length s)) w
  same_behind h = drop_more (k + 2 * 0) (tables_end (length s)) (omega arith) wc w (rw ec (drop_cleared w k lk 0))

-- ---- the tables at the end

map_vertex : (f : ℕ → ℕ) (ks : List Corner) → map f (triples ks) ≡ map (λ k. f k.vertex) ks
map_vertex f [] = refl
map_vertex f (k ∷ ks) = ap (λ (l : List ℕ). f k.vertex ∷ l) (map_vertex f ks)

module _ (s : List ℕ) (n : Counts) (h : Head) (cell : CellRecord) (same-cell : cell ≡ record_of h) (w wc w' ids ids' : List ℕ) (t : Tables) (d : Result Decided Refusal)
    (l14 : 14 ≤ length s) (l4 : 4 * length s ≤ length w) (k : ℕ) (all : trees (length s) ≤ k) (lk : k ≤ length w) (ec : wc ≡ cleared w k) (ev : t.vertices ≡ 0) (ea : take t.areas ids ≡ seeded h.area)
    (p : PolygonsDone (floats h.bb_min) (floats h.bb_size) wc w' ids ids' (trees (length s)) (most (length s)) t 0 0 0 (polygons_at s 14 n.polys) d)
    (counted : IfOk d (λ e. e.pushed ≡ pushed_in (floats h.bb_min) (floats h.bb_size) (vertices_of (polygons_at s 14 n.polys)))) where
  empty : met wc (trees (length s)) t.vertices ≡ []
  unfolding met
  empty = rw ev

  abbrev answer : Decided → Decision
  answer e = record {
    cell = cell;
    counts = n;
    areas = record { ids = ids'; len = e.tables.areas };
    vertices = e.tables.vertices;
    corners = e.corners;
    links = e.links;
    pushed = e.pushed;
  }

  tables_done : (e : Decided) → d ≡ Ok e → Tabled (length s) h (polygons_at s 14 n.polys) w' (answer e)
  tables_done e z =
      let g = p.added e z in
      let ks = corners (floats h.bb_min) (floats h.bb_size) (polygons_at s 14 n.polys) in
      let count : e.corners ≡ length ks = p.corner_count e z ∙ zero-add _ in
      let numbers : take e.corners (drop (indices_at (length s)) w') ≡ numbers_from [] (triples ks) = rw (p.corner_count e z) (g.indices ∙ rw empty) in
      record {
        vertices = g.now_met ∙ rw empty;
        indices = numbers ∙ numbers_at_the_end [] (triples ks) ∙ map_vertex (index_of (distinct_from [] (triples ks))) ks;
        areas = g.now_ids ∙ rw ea;
        corner_count = count;
        link_count = p.link_count e z ∙ zero-add _;
        pushed_count = rw z at counted;
        few_vertices = (p.ready e z).few;
        few_corners = p.few e z;
        few_polys = omega (arith, p.many e z);
        cell = same-cell;
      }

  module _ (few : k ≤ tables_end (length s)) where
    behind : drop (tables_end (length s)) w' ≡ drop (tables_end (length s)) w
    behind =
        let b = trees (length s) in
        let m = most (length s) in
        let same : drop (b + 2 * m + m) w' ≡ drop (b + 2 * m + m) wc = sym (drop-drop m (b + 2 * m) w') ∙ p.back ∙ drop-drop m (b + 2 * m) wc in
        same ∙ same_behind s w wc l14 l4 k all lk ec few

    pub polygons_bad : (q : Refusal) → d ≡ Err q → WellDone s h n w w' (Err q)
    polygons_bad q bad = record {
      verdict = λ rest. (rw bad at (p.verdict rest)) ∙ rw (empty, ea);
      long = p.long ∙ cleared_long s w wc l14 l4 k all lk ec;
      beyond = behind;
      counts_are = λ r z. not_ok refl z;
      tabled = λ r z. not_ok refl z;
    }

    pub polygons_done : (e : Decided) → d ≡ Ok e → WellDone s h n w w' (Ok (answer e))
    polygons_done e good =
        let same : (r : Decision) → ◌≡◌ {A = Result Decision Refusal} (Ok (answer e)) (Ok r) → answer e ≡ r = λ r z. cc in
        record {
          verdict = λ rest. (rw good at (p.verdict rest)) ∙ rw (empty, ea);
          long = p.long ∙ cleared_long s w wc l14 l4 k all lk ec;
          beyond = behind;
          counts_are = λ r z. sym (ap (λ (x : Decision). x.counts) (same r z));
          tabled = λ r z. rw (← same r z) (tables_done e good);
        }

-- ---- 3

pub not_formed : (s w : List ℕ) (q : Refusal) → scan s ≡ Scanned.fault (reason_number q.reason) q.place → DecideDone s w w (Err q)
not_formed s w q k = record {
  verdict = λ rest. rw k;
  long = refl;
  beyond = refl;
  tabled = λ d z. not_ok refl z;
  counts_are = λ d z. not_ok refl z;
}

-- ---- 1, 10, 11

module _ (s w : List ℕ) (n : Counts) (W : Well s n) where
  abbrev front_fault : ℕ
  front_fault = first_fault (fault_if (ltb (length w / 4) (length s)) 1 ∷ fault_if (not (finite_box (head_at s 0))) 10 ∷ fault_if (ltb 16383 n.polys) 11 ∷ [])

  front : (rest : Verdict) → on_scan (before_leaves (length s) (length w) rest) (scan s) ≡ at 0 front_fault (on_polygons (head_at s 0) (polygons_at s 14 n.polys) rest)
  unfolding before_leaves
  front rest = rw (W.is, poly_count s n.polys)

  module _ {A : Type 0} (v : Result A Refusal) (ev : VerdictHas v front_fault) where
    -- 1 passed
    pub room : (a : A) → v ≡ Ok a → 4 * length s ≤ length w
    room a none = omega (arith, ltb-false (length w / 4) (length s) (passed (ltb (length w / 4) (length s)) 0 _ (fine_none v front_fault ev a none)))

    pub bad_front : (q : Refusal) → v ≡ Err q → DecideDone s w w (Err q)
    bad_front q eq = record {
      verdict = λ rest. (rw eq at (ev (on_polygons (head_at s 0) (polygons_at s 14 n.polys) rest))) ∙ sym (front rest);
      long = refl;
      beyond = refl;
      tabled = λ d z. not_ok refl z;
      counts_are = λ d z. not_ok refl z;
    }

    pub good_front : (a : A) → v ≡ Ok a → (w' : List ℕ) (r : Result Decision Refusal) → WellDone s (head_at s 0) n w w' r → DecideDone s w w' r
    good_front a none w' r d = record {
      verdict = λ rest. d.verdict rest ∙ sym (front rest ∙ at_none 0 front_fault _ (fine_none v front_fault ev a none));
      long = d.long;
      beyond = drop_more (tables_end (length s)) (2 * length s) (omega (arith, (trees_in (length s) W.long).2)) w' w d.beyond;
      tabled = λ q z c e.
          rw (cell_is s W c e) (d.tabled q z);
      counts_are = λ q z c e.
          d.counts_are q z ∙ sym (ap cell_counts (cell_is s W c e) ∙ counts_back s n);
    }
