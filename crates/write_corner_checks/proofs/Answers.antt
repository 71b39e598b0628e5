-- What the answers of the two tables say of an edge and of a corner. Assumes nothing.
use Prim.Native.Nat.{ℕ, ◌+◌, ◌*◌, ◌≤◌, ◌<◌}
use native.Mathlib.Omega.{arith}
use native.Mathlib.Numerals.{add-one}
use mathlib.Core.Path.{◌≡◌, refl, ap, sym, subst, ◌∙◌}
use mathlib.Core.Bool.{true, false≢true}
use mathlib.Core.List.{List}
use lib.ListN.{length, take, drop, set, length-set, length-drop}
use lib.Seq.{drop-set-add, drop-set-lt, take-suc-set}
use lib.Dec.{leb}
use borrow.Author.Tests.{leb-true, leb-false, lt-ltb, le-ltb}
use Rattle.std.specs.Prelude.{Option, Some, None, Result, Ok, Err}
use Rattle.strip.specs.declared.Reason.{Reason}
use Rattle.strip.specs.declared.Reason.TheVariants.{ManyVertices, ManyAreas}
use Rattle.fields.specs.Bytes.{over}
use Rattle.distinct.specs.Distinct.{index_of, with_new}
use Rattle.distinct.specs.Numbers.{up_to}
use Rattle.distinct.proofs.Laws.{index_most, length_with}
use Rattle.distinct.proofs.Left.{drop_more}
use Rattle.areas.specs.Tables.{Entered}
use Rattle.areas.specs.declared.Entry.{Entry}
use Rattle.fields.proofs.Over.{length_over}
use Rattle.areas.proofs.Ids.{ids_after, at_in, full_in as area-full-in}
use Rattle.write_vertices.specs.Vertices.{count_after}
use Rattle.write_vertices.specs.Table.{met, Table, LookedUp}
use Rattle.write_vertices.specs.declared.Numbered.{Numbered}
use Rattle.write_vertices.proofs.Triples.{length_met}
use Rattle.write_vertices.proofs.Lookup.{vertex_in, full_in, count_le}
use Rattle.write_pages.specs.Checks.{first_fault, at}
use Rattle.write_pages.proofs.Firsts.{first_none, first_some, first_last}
use Rattle.write_corner_checks.specs.Steps.{AreaHas, EdgeHas, TablesReady, CornerDone, behind_table}
use Rattle.write_corner_checks.proofs.Faults.{not_ok, passes, refuses, passed_none, refused_some}
use Rattle.write_corner_checks.specs.declared.Tables.{Tables}
use Rattle.write_vertices.proofs.Behind.{met_set, table_set}

-- ---- an area

module _ (ids : List ℕ) (long : length ids ≡ 32) (len x : ℕ) (e : Entry) (ids' : List ℕ) (has : Entered (take len ids) x e) (left : ids' ≡ over (up_to 32 (take len ids) x) ids) where
  still_long : length ids' ≡ 32
  still_long = rw left (length_over (up_to 32 (take len ids) x) ids ∙ long)

  pub area_no : e.at ≡ None → AreaHas ids ids' len x (Err ManyAreas)
  area_no er =
      let over_full : 32 < length (with_new (take len ids) x) = leb-false (length (with_new (take len ids) x)) 32 (area-full-in (leb (length (with_new (take len ids) x)) 32) _ er (has.answer 0)) in
      record {
        fault = refuses {A = ℕ} _ _ ManyAreas refl (rw (lt-ltb 32 (length (with_new (take len ids) x)) over_full)) (λ z. omega arith);
        long = still_long;
        now_ids = λ n q. not_ok refl q;
      }

  module _ (i : ℕ) (er : e.at ≡ Some i) where
    has_room : leb (length (with_new (take len ids) x)) 32 ≡ true
    has_room = (at_in (leb (length (with_new (take len ids) x)) 32) _ _ er (has.answer 0)).0

    pub area_in : AreaHas ids ids' len x (Ok e.len)
    area_in = record {
      fault = passes _ _ e.len refl (rw (le-ltb 32 (length (with_new (take len ids) x)) (leb-true (length (with_new (take len ids) x)) 32 has_room)));
      long = still_long;
      now_ids = λ n q.
          let same : e.len ≡ n = cc in
          rw (← same, has.len_is, left) (ids_after ids long len x ∙ rw has_room);
    }

-- ---- an edge

module _ (ids ids1 : List ℕ) (len x y : ℕ) (r : Result ℕ Reason) (has : AreaHas ids ids1 len x r) where
  pub edge_no_a : (e : Reason) → r ≡ Err e → EdgeHas ids ids1 len x y (Err e)
  edge_no_a e er = record {
    fault = λ place rest. (rw er at (has.fault place rest)) ∙ ap (λ (f : ℕ). at place f rest) (sym (first_some _ _ (refused_some r _ has.fault e er).1));
    long = has.long;
    now_ids = λ n q. not_ok refl q;
  }

  pub edge_on : (n : ℕ) → r ≡ Ok n → (ids2 : List ℕ) (q : Result ℕ Reason) → AreaHas ids1 ids2 n y q → EdgeHas ids ids2 len x y q
  edge_on n er ids2 q more =
      let first : take n ids1 ≡ with_new (take len ids) x = has.now_ids n er in
      record {
        fault = λ place rest. (rw first at (more.fault place rest)) ∙ ap (λ (f : ℕ). at place f rest) (sym (first_none _ _ (passed_none r _ has.fault n er) ∙ first_last _));
        long = more.long;
        now_ids = λ k g. rw first at (more.now_ids k g);
      }

-- ---- a corner

module _ (w w' ids : List ℕ) (b m : ℕ) (t : Tables) (item x y z : ℕ) (ready : TablesReady w ids b m t.vertices item) (lt : item < m) (r : Option Numbered) (looked : LookedUp w w' b t.vertices x r) where
  few_after : count_after r t.vertices ≤ t.vertices + 1
  few_after = count_le (met w b t.vertices) x t.vertices (length_met w b t.vertices) r (looked.answer 0)

  behind_same : behind_table w' b m ≡ behind_table w b m
  behind_same = drop_more (b + 2 * count_after r t.vertices) (b + 2 * m) (omega (arith, ready.few, few_after)) w' w looked.rest

  -- 14
  pub corner_no_vertex : r ≡ None → CornerDone w w' ids ids b m t t item x y z (Err ManyVertices)
  unfolding first_fault
  corner_no_vertex er = record {
    fault = refuses {A = Unit {0}} _ _ ManyVertices refl (rw (lt-ltb 65536 (length (with_new (met w b t.vertices) x)) (leb-false (length (with_new (met w b t.vertices) x)) 65536 (full_in (leb (length (with_new (met w b t.vertices) x)) 65536) _ _ er (looked.answer 0))))) (λ z. omega arith);
    ready = record {
      table = subst (λ (q : Option Numbered). Table w' b (count_after q t.vertices)) er looked.table;
      few = omega (arith, ready.few);
      room = omega (arith, ready.room, looked.long);
      trees = ready.trees;
      areas = ready.areas;
    };
    long = looked.long;
    back = ap (drop (item + 1)) behind_same;
    now_met = λ ok. absurd (false≢true ok);
    now_ids = λ ok. absurd (false≢true ok);
    index = λ ok. absurd (false≢true ok);
  }

  module _ (v : Numbered) (er : r ≡ Some v) where
    is_in : (leb (length (with_new (met w b t.vertices) x)) 65536 ≡ true) × (v.number ≡ index_of (met w b t.vertices) x) × (v.count ≡ length (with_new (met w b t.vertices) x))
    is_in = vertex_in _ _ _ v er (looked.answer 0)

    few_vertices : length (with_new (met w b t.vertices) x) ≤ 65536
    few_vertices = leb-true (length (with_new (met w b t.vertices) x)) 65536 is_in.0

    few_more : v.count ≤ item + 1
    few_more = omega (arith, is_in.2, length_with (met w b t.vertices) x, length_met w b t.vertices, ready.few)

    -- the number fits a word
    pub number_le : v.number ≤ 65536
    number_le = omega (arith, is_in.1, index_most (met w b t.vertices) x, length_met w b t.vertices, ready.table.few)

    table_more : Table w' b v.count
    table_more = subst (λ (q : Option Numbered). Table w' b (count_after q t.vertices)) er looked.table

    module _ (ids' : List ℕ) (a : Result ℕ Reason) (has : EdgeHas ids ids' t.areas y z a) where
      -- 15
      pub corner_no_area : (e : Reason) → a ≡ Err e → CornerDone w w' ids ids' b m t (record { areas = t.areas; vertices = v.count }) item x y z (Err e)
      unfolding first_fault
      corner_no_area e ea = record {
        fault = rw (le-ltb 65536 (length (with_new (met w b t.vertices) x)) few_vertices) (rw ea at has.fault);
        ready = record { table = table_more; few = few_more; room = omega (arith, ready.room, looked.long); trees = ready.trees; areas = has.long };
        long = looked.long;
        back = ap (drop (item + 1)) behind_same;
        now_met = λ ok. absurd (false≢true ok);
        now_ids = λ ok. absurd (false≢true ok);
        index = λ ok. absurd (false≢true ok);
      }

      pub corner_fine : (n : ℕ) → a ≡ Ok n → CornerDone w (set w' (b + 2 * m + item) v.number) ids ids' b m t (record { areas = n; vertices = v.count }) item x y z (Ok tt)
      unfolding first_fault
      corner_fine n ea =
          let k = v.number in
          let stored : behind_table (set w' (b + 2 * m + item) k) b m ≡ set (behind_table w b m) item k = drop-set-add (b + 2 * m) w' item k ∙ ap (λ (l : List ℕ). set l item k) behind_same in
          let long : item < length (behind_table w b m) = omega (arith, ready.room, length-drop (b + 2 * m) w) in
          record {
            fault = λ place rest. rw (le-ltb 65536 (length (with_new (met w b t.vertices) x)) few_vertices) (rw ea at (has.fault place rest));
            ready = record {
              table = table_set w' b v.count (b + 2 * m + item) k table_more (omega (arith, few_more));
              few = few_more;
              room = omega (arith, ready.room, looked.long, length-set w' (b + 2 * m + item) k);
              trees = ready.trees;
              areas = has.long;
            };
            long = length-set w' (b + 2 * m + item) k ∙ looked.long;
            back = ap (drop (item + 1)) stored ∙ drop-set-lt (item + 1) (behind_table w b m) item k (omega arith);
            now_met = λ ok. met_set w' b v.count (b + 2 * m + item) k table_more (omega (arith, few_more))
                ∙ ap (λ (s : Option Numbered). met w' b (count_after s t.vertices)) (sym er) ∙ looked.now_met ∙ rw is_in.0;
            now_ids = λ ok. has.now_ids n ea;
            index = λ ok. ap (take (item + 1)) stored ∙ rw (add-one item, take-suc-set (behind_table w b m) item k long, is_in.1);
          }
