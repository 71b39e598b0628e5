-- From what `decide` promises to what `plan` promises: the tables stay as they are, and the leaves' checks come behind the polygons'. Assumes nothing.
use Prim.Native.Nat.{ℕ, zero, suc, ◌+◌, ◌*◌, ◌/◌, ◌≤◌, ◌<◌}
use native.Mathlib.Omega.{arith}
use native.Mathlib.Nat.{min-le_left}
use mathlib.Core.Path.{◌≡◌, refl, ap, sym, ◌∙◌}
use mathlib.Core.List.{List, [], ◌∷◌, ◌++◌}
use lib.ListN.{length, take, drop, length-take, length-drop, length-append}
use lib.Seq.{ext_get_or, get_or-take, get_or-drop}
use lib.Dec.{ltb}
use borrow.Author.Tests.{ltb-false}
use Rattle.fields.specs.Put.{put}
use Rattle.fields.proofs.Puts.{length_put, before, drop_behind}
use Rattle.fields.proofs.Holds.{Holds, put_held, held_first, held_second, held_taken}
use Rattle.std.specs.Prelude.{Result, Ok, Err}
use Rattle.strip.specs.Cell.{Cell, Head, NavPoly}
use Rattle.strip.specs.Reading.{head_at}
use Rattle.strip.specs.Rows.{polygons_at}
use Rattle.strip.specs.Scan.{Scanned, ok, fault, scan}
use Rattle.strip.specs.Laid.{Whole, cell_at}
use Rattle.strip.specs.declared.Counts.{Counts}
use Rattle.strip.specs.declared.Refusal.{Refusal}
use Rattle.strip.proofs.Laid.{Well, well_cell, cell_is}
use Rattle.cell_record.specs.Record.{record_of}
use Rattle.write_vertices.specs.Table.{triple_at, met}
use Rattle.write_vertices.proofs.Triples.{met_ext}
use Rattle.write_pages.specs.Sectors.{leaves, depth_of, root_box, leaf_counts, tree_of}
use Rattle.write_pages.specs.Pages.{links, sectors}
use Rattle.write_pages.specs.Checks.{Verdict, fine, fault_if, first_fault, at}
use Rattle.write_pages.proofs.Firsts.{passed}
use Rattle.write_leaf_checks.specs.FirstRefused.{FirstRefused}
use Rattle.write_decide.specs.Decide.{before_leaves, on_scan, decision_then, trees, indices_at, tables_end, Tabled, DecideDone}
use Rattle.write_polygon_checks.specs.Steps.{says, VerdictHas}
use Rattle.write_decide.specs.declared.Decision.{Decision}
use Rattle.write_corner_checks.proofs.Faults.{not_ok}
use Rattle.write_decide.proofs.Fronts.{trees_in}
use Rattle.write_plan.specs.Plan.{boxes, leaf_words, points_in, rest_words, WorkHeld, after_polygon_checks, Planned}
use Rattle.write_plan.proofs.Verdicts.{scanned_cell}
use Rattle.strip.proofs.Lengths.{poly_count}
use Rattle.write_plan.proofs.Rest.{length_boxes, length_leaves, point_count_lem}

-- ---- a store behind what is read

module _ (p : ℕ) (bs xs : List ℕ) where
  part_before : (i k : ℕ) → i + k ≤ p → take k (drop i (put p bs xs)) ≡ take k (drop i xs)
  part_before i k h =
      ext_get_or 0 (take k (drop i (put p bs xs))) (take k (drop i xs))
      (rw (length-take k (drop i (put p bs xs)), length-take k (drop i xs), length-drop i (put p bs xs), length-drop i xs, length_put p bs xs))
      (λ j l.
      let less : j < k = omega (arith, l, length-take k (drop i (put p bs xs)), min-le_left k (length (drop i (put p bs xs)))) in
      get_or-take k (drop i (put p bs xs)) j 0 less ∙ get_or-drop i (put p bs xs) j 0 ∙ before p bs xs (i + j) (omega arith)
      ∙ sym (get_or-take k (drop i xs) j 0 less ∙ get_or-drop i xs j 0))

  met_before : (b n : ℕ) → b + 2 * n ≤ p → met (put p bs xs) b n ≡ met xs b n
  unfolding triple_at
  met_before b n h = met_ext xs (put p bs xs) b n (λ i l. rw (before p bs xs (b + 2 * i) (omega arith), before p bs xs (b + 2 * i + 1) (omega arith)))

tabled_kept : (words : ℕ) (h : Head) (ps : List NavPoly) (w bs : List ℕ) (d : Decision) → Tabled words h ps w d → Tabled words h ps (put (tables_end words) bs w) d
tabled_kept words h ps w bs d t = record {
  vertices = met_before (tables_end words) bs w (trees words) d.vertices (omega (arith, t.few_vertices, t.few_corners)) ∙ t.vertices;
  indices = part_before (tables_end words) bs w (indices_at words) d.corners (omega (arith, t.few_corners)) ∙ t.indices;
  areas = t.areas;
  corner_count = t.corner_count;
  link_count = t.link_count;
  pushed_count = t.pushed_count;
  few_vertices = t.few_vertices;
  few_corners = t.few_corners;
  few_polys = t.few_polys;
  cell = t.cell;
}

-- ---- what a decision without a refusal tells

refused_not : (n place : ℕ) (v : Verdict) → fine ≡ at place n v → n ≡ 0
unfolding at
refused_not zero place v e = refl
refused_not (suc n) place v e = let z : ◌≡◌ {A = ℕ} 0 1 = cc in absurd (omega arith)

module _ (s w w' : List ℕ) (r : Result Decision Refusal) (D : DecideDone s w w' r) where
  -- a refusal before the leaves
  pub early : (q : Refusal) → r ≡ Err q → Planned s w w' (Err q)
  early q bad = record {
    verdict = λ rest. by rest (scan s) refl;
    long = D.long;
    beyond = D.beyond;
    tabled = λ d z. not_ok refl z;
    held = λ d z. not_ok refl z;
    counts_are = λ d z. not_ok refl z;
  }
    where
      by : (rest : Verdict) (x : Scanned) → scan s ≡ x → decision_then (Err q) rest ≡ on_scan (λ c. before_leaves (length s) (length w) (after_polygon_checks rest c) c) x
      by rest (ok c) e = rw (bad, e) at (D.verdict (after_polygon_checks rest c))
      by rest (fault n p) e = rw (bad, e) at (D.verdict rest)

  module _ (d : Decision) (z : r ≡ Ok d) where
    found : (c : Cell) × (scan s ≡ Scanned.ok c)
    found = scanned_cell s r (before_leaves (length s) (length w) fine) (D.verdict fine) d z

    cell : Cell
    cell = found.0

    is : scan s ≡ Scanned.ok cell
    unfolding cell
    is = found.1

    formed : Well s d.counts
    formed = well_cell s cell is d.counts (D.counts_are d z cell is)

    stands : cell ≡ cell_at s d.counts
    stands = cell_is s formed cell is

    pub long : 14 ≤ length s
    long = formed.long

    pub record_is : d.cell ≡ record_of (head_at s 0)
    record_is = (D.tabled d z cell is).cell ∙ ap (λ (c : Cell). record_of c.head) stands

    pub length_is : Whole s d.counts
    length_is = formed.length_is

    pub room : 4 * length s ≤ length w'
    unfolding before_leaves
    room =
        let said : fine ≡ before_leaves (length s) (length w) fine cell = rw (z, is) at (D.verdict fine) in
        let none = refused_not _ 0 _ said in
        omega (arith, ltb-false (length w / 4) (length s) (passed (ltb (length w / 4) (length s)) 0 _ none), D.long)

    size : length (rest_words s d.counts) ≡ 3 * d.counts.polys + d.counts.points
    size =
        let n = d.counts in
        length-append (boxes (polygons_at s 14 n.polys)) (leaf_words (leaves (depth_of (head_at s 0).content) (root_box (head_at s 0))) (points_in s n))
        ∙ omega (arith, length_boxes (polygons_at s 14 n.polys), poly_count s n.polys, length_leaves (leaves (depth_of (head_at s 0).content) (root_box (head_at s 0))) (points_in s n), point_count_lem s n)

    fits : tables_end (length s) + length (rest_words s d.counts) ≤ 2 * length s
    fits =
        let t = D.tabled d z cell is in
        let n : d.counts.polys ≡ length cell.polys = ap (λ (k : Counts). k.polys) (D.counts_are d z cell is) in
        omega (arith, size, length_is, (trees_in (length s) long).2, t.few_polys, t.few_corners)

    module _ (w2 : List ℕ) (e2 : w2 ≡ put (tables_end (length s)) (rest_words s d.counts) w') where
      pub held : WorkHeld s d.counts w2
      held =
          let n = d.counts in
          let A = boxes (polygons_at s 14 n.polys) in
          let B = leaf_words (leaves (depth_of (head_at s 0).content) (root_box (head_at s 0))) (points_in s n) in
          let sa : length A ≡ 3 * n.polys = length_boxes (polygons_at s 14 n.polys) ∙ ap (λ (k : ℕ). 3 * k) (poly_count s n.polys) in
          let sb : length B ≡ n.points = length_leaves (leaves (depth_of (head_at s 0).content) (root_box (head_at s 0))) (points_in s n) ∙ point_count_lem s n in
          let h : Holds w2 (tables_end (length s)) (A ++ B) = rw e2 (put_held (tables_end (length s)) (rest_words s n) w' (omega (arith, fits, room))) in
          record {
            room = omega (arith, fits, room, size, ap length e2 ∙ length_put (tables_end (length s)) (rest_words s n) w');
            boxes_held = rw sa at (held_taken (held_first A B h));
            leaves_held = rw (sa, sb) at (held_taken (held_second A B h));
          }

      sectors_are : sectors cell ≡ tree_of (head_at s 0) (polygons_at s 14 d.counts.polys) (points_in s d.counts)
      unfolding sectors
      sectors_are = ap sectors stands

      front_said : (rest : Verdict) → on_scan (λ c. before_leaves (length s) (length w) (after_polygon_checks rest c) c) (scan s) ≡ after_polygon_checks rest cell
      front_said rest =
          let passes : decision_then r (after_polygon_checks rest cell) ≡ after_polygon_checks rest cell = ap (λ (v : Result Decision Refusal). says v (after_polygon_checks rest cell)) z in
          rw is (sym (sym passes ∙ (rw is at (D.verdict (after_polygon_checks rest cell)))))

      planned : (v : Result Decision Refusal) → ((e : Decision) → v ≡ Ok e → d ≡ e) → ((rest : Verdict) → says v rest ≡ after_polygon_checks rest cell) → Planned s w w2 v
      planned v same tells = record {
        verdict = λ rest. tells rest ∙ sym (front_said rest);
        long = rw e2 (length_put (tables_end (length s)) (rest_words s d.counts) w') ∙ D.long;
        beyond = rw e2 (drop_behind (tables_end (length s)) (rest_words s d.counts) w' (2 * length s) fits) ∙ D.beyond;
        tabled = λ q y c e. rw (← same q y, e2) (tabled_kept (length s) c.head c.polys w' (rest_words s d.counts) d (D.tabled d z c e));
        held = λ q y. rw (← same q y) held;
        counts_are = λ q y c e. rw (← same q y) (D.counts_are d z c e);
      }

      module _ (leaf : Result (Unit {0}) Refusal) (told-leaves : FirstRefused leaf 0 (leaf_counts (tree_of (head_at s 0) (polygons_at s 14 d.counts.polys) (points_in s d.counts)))) where
        pub bad_leaf : (p : Refusal) → leaf ≡ Err p → Planned s w w2 (Err p)
        unfolding after_polygon_checks
        bad_leaf p er =
            planned (Err p) (λ q y. not_ok refl y)
            (λ rest.
            let v = at 0 (first_fault (fault_if (ltb 585 (length cell.portals)) 19 ∷ fault_if (ltb 8192 (length (links cell))) 20 ∷ [])) rest in
            (rw er at (told-leaves v)) ∙ rw sectors_are)

        module _ (u : Unit {0}) (passes : leaf ≡ Ok u) (v : Result (Unit {0}) Refusal) (ev : VerdictHas v (first_fault (fault_if (ltb 585 d.counts.portals) 19 ∷ fault_if (ltb 8192 d.links) 20 ∷ []))) where
          last : (rest : Verdict) → says v rest ≡ after_polygon_checks rest cell
          unfolding after_polygon_checks links
          last rest =
              let n : d.counts.portals ≡ length cell.portals = ap (λ (k : Counts). k.portals) (D.counts_are d z cell is) in
              let l : d.links ≡ length (links cell) = (D.tabled d z cell is).link_count in
              let same : first_fault (fault_if (ltb 585 d.counts.portals) 19 ∷ fault_if (ltb 8192 d.links) 20 ∷ []) ≡ first_fault (fault_if (ltb 585 (length cell.portals)) 19 ∷ fault_if (ltb 8192 (length (links cell))) 20 ∷ []) =
              ap (λ (k : ℕ). first_fault (fault_if (ltb 585 k) 19 ∷ fault_if (ltb 8192 d.links) 20 ∷ [])) n
              ∙ ap (λ (k : ℕ). first_fault (fault_if (ltb 585 (length cell.portals)) 19 ∷ fault_if (ltb 8192 k) 20 ∷ [])) l in
              ev rest ∙ ap (λ (f : ℕ). at 0 f rest) same
              ∙ (rw passes at (told-leaves (at 0 (first_fault (fault_if (ltb 585 (length cell.portals)) 19 ∷ fault_if (ltb 8192 (length (links cell))) 20 ∷ [])) rest))) ∙ rw sectors_are

          pub bad_count : (p : Refusal) → v ≡ Err p → Planned s w w2 (Err p)
          bad_count p ep = planned (Err p) (λ q y. not_ok refl y) (λ rest. rw ep at (last rest))

          pub all_passed : (k : Unit {0}) → v ≡ Ok k → Planned s w w2 (Ok d)
          all_passed k ek = planned (Ok d) (λ q y. cc) (λ rest. rw ek at (last rest))
