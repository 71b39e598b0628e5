-- The first refusal of leaves in a row. Assumes nothing.
use Prim.Native.Nat.{ℕ, zero, suc, ◌+◌, ◌-◌, ◌*◌, ◌/◌, ◌^◌, ◌≤◌, ◌<◌}
use mathlib.Core.Path.{◌≡◌, refl, sym, ap, ◌∙◌}
use mathlib.Core.List.{List, [], ◌∷◌, ◌++◌}
use native.Mathlib.Omega.{arith}
use lib.ListN.{length}
use borrow.Author.Tests.{lt-ltb, le-ltb}
use Rattle.quarters.specs.declared.quarter.QuarterBox.{QuarterBox}
use Rattle.quarters.specs.declared.bounds.Aabb.{Aabb}
use Rattle.strip.specs.Cell.{NavPoint}
use Rattle.std.specs.Prelude.{Result, Ok, Err}
use Rattle.strip.specs.declared.Reason.TheVariants.{ManyPolygonsInLeaf, ManyPointsInLeaf}
use Rattle.strip.specs.declared.Refusal.{Refusal}
use Rattle.write_pages.specs.Sectors.{sub0, sub1, sub2, sub3, quarters, leaf_ids, grown, leaf_counts}
use Rattle.write_pages.specs.Checks.{Verdict, at, first_fault, leaf_fault, leaves_verdict}
use Rattle.write_pages.proofs.LeafCounts.{leaves_length}
use Rattle.write_leaf_counts.specs.Work.{box_at, boxes_in, picked_from, tree_by}
use Rattle.write_quadtree.specs.Subtrees.{subtree, divided}
use Rattle.write_quadtree.specs.declared.subtrees.Subtree.{Subtree}
use Rattle.write_quadtree.specs.declared.subtrees.Subtrees.{Subtrees}
use Rattle.write_quadtree.proofs.Dividing.{on, of_subs, subs_follow}
use Rattle.write_leaf_checks.specs.FirstRefused.{passed_then, FirstRefused}
use Rattle.write_leaf_counts.proofs.Picks.{ids_few, picked_few}
use Rattle.strip.proofs.Steps.{items_length}

-- ---- one leaf

leaf_17 : (m n : ℕ) → 8192 < m → leaf_fault (m, n) ≡ 17
unfolding first_fault
leaf_17 m n h = rw (lt-ltb 8192 m h)

leaf_18 : (m n : ℕ) → m ≤ 8192 → 2048 < n → leaf_fault (m, n) ≡ 18
unfolding first_fault
leaf_18 m n h g = rw (le-ltb 8192 m h, lt-ltb 2048 n g)

leaf_fits : (m n : ℕ) → m ≤ 8192 → n ≤ 2048 → leaf_fault (m, n) ≡ 0
unfolding first_fault
leaf_fits m n h g = rw (le-ltb 8192 m h, le-ltb 2048 n g)

module _ (m n k : ℕ) where
  pub tells_17 : 8192 < m → FirstRefused {A = Unit {0}} (Err (record { reason = ManyPolygonsInLeaf; place = k })) k ((m, n) ∷ [])
  unfolding leaves_verdict at
  tells_17 h = λ rest. rw (leaf_17 m n h)

  pub tells_18 : m ≤ 8192 → 2048 < n → FirstRefused {A = Unit {0}} (Err (record { reason = ManyPointsInLeaf; place = k })) k ((m, n) ∷ [])
  unfolding leaves_verdict at
  tells_18 h g = λ rest. rw (leaf_18 m n h g)

  pub tells_none : m ≤ 8192 → n ≤ 2048 → FirstRefused {A = Unit {0}} (Ok tt) k ((m, n) ∷ [])
  unfolding leaves_verdict at
  tells_none h g = λ rest. rw (leaf_fits m n h g)

-- ---- leaves in a row

verdict_append : (k : ℕ) (ms ns : List (ℕ × ℕ)) (rest : Verdict) → leaves_verdict k (ms ++ ns) rest ≡ leaves_verdict k ms (leaves_verdict (k + length ms) ns rest)
unfolding leaves_verdict
verdict_append k [] ns rest = ap (λ (i : ℕ). leaves_verdict i ns rest) (omega arith)
verdict_append k (m ∷ ms) ns rest =
    ap (at k (leaf_fault m)) (verdict_append (k + 1) ms ns rest ∙ ap (λ (i : ℕ). leaves_verdict (k + 1) ms (leaves_verdict i ns rest)) (omega arith))

abbrev Answer : Type 0
Answer = Result (Unit {0}) Refusal

-- r is p where that is a refusal, and otherwise the first refusal of the leaves from number k on, if there is one
pub record RefusedNext (p r : Answer) (k : ℕ) (ns : List (ℕ × ℕ)) : Type 0 where
  pub told : (rest : Verdict) → passed_then r rest ≡ passed_then p (leaves_verdict k ns rest)

pub next_first : {p r : Answer} (k : ℕ) (ns : List (ℕ × ℕ)) (u : Unit {0}) → p ≡ Ok u → FirstRefused r k ns → RefusedNext p r k ns
next_first k ns u e h = record { told = λ rest. rw e (h rest) }

-- a refusal stays, whatever comes behind it
pub next_kept : {p : Answer} (k : ℕ) (ns : List (ℕ × ℕ)) (e : Refusal) → p ≡ Err e → RefusedNext p (Err e) k ns
next_kept k ns e er = record { told = λ rest. rw er }

-- what is told behind a row of leaves, and behind the row after it
tells_on : {p q r : Answer} (k : ℕ) (ms ns : List (ℕ × ℕ)) {j : ℕ} → RefusedNext p q k ms → k + length ms ≡ j → RefusedNext q r j ns → RefusedNext p r k (ms ++ ns)
tells_on {p} {q} k ms ns first e next =
    record {
      told = λ rest.
          next.told rest
          ∙ ap (λ (i : ℕ). passed_then q (leaves_verdict i ns rest)) (sym e)
          ∙ first.told (leaves_verdict (k + length ms) ns rest)
          ∙ ap (passed_then p) (sym (verdict_append k ms ns rest));
    }

-- ---- the leaves below a box

module _ (ids : QuarterBox → List ℕ) (stored : ℕ → List NavPoint) where
  abbrev pub counts : ℕ → ℕ → Aabb → List (ℕ × ℕ)
  counts d k b = leaf_counts (grown ids stored d k b)

  node : (d k : ℕ) (b : Aabb) → counts (suc d) k b ≡ counts d k (sub0 b) ++ (counts d (k + 4 ^ d) (sub1 b) ++ (counts d (k + 2 * 4 ^ d) (sub2 b) ++ counts d (k + 3 * 4 ^ d) (sub3 b)))
  unfolding leaf_counts grown
  node d k b = refl

  -- from sub to sub
  module _ (t : Subtree) (splits : t.depth ≡ 0 → ⊥) {s : Subtrees} (e : s ≡ divided t) where
    pub tells_subs : {p q0 q1 q2 q3 : Answer} → RefusedNext p q0 s.s0.leaf (on counts s.s0) → RefusedNext q0 q1 s.s1.leaf (on counts s.s1)
        → RefusedNext q1 q2 s.s2.leaf (on counts s.s2) → RefusedNext q2 q3 s.s3.leaf (on counts s.s3) → RefusedNext p q3 t.leaf (on counts t)
    tells_subs h0 h1 h2 h3 =
        let n = subs_follow t e in
        let long : (x : Subtree) → length (on counts x) ≡ 4 ^ x.depth = λ x. leaves_length ids stored x.depth x.leaf x.b in
        rw (of_subs t splits e counts (λ _ c0 c1 c2 c3. c0 ++ (c1 ++ (c2 ++ c3))) node, sym n.0)
        (tells_on s.s0.leaf _ _ h0 (omega (arith, long s.s0, n.1))
        (tells_on s.s1.leaf _ _ h1 (omega (arith, long s.s1, n.2)) (tells_on s.s2.leaf _ _ h2 (omega (arith, long s.s2, n.3)) h3)))

  -- where no leaf can have too many
  module _ (few : (q : QuarterBox) → length (ids q) ≤ 8192) (fit : (k : ℕ) → length (stored k) ≤ 2048) where
    pub tells_small : (d k : ℕ) (b : Aabb) → RefusedNext (Ok tt) (Ok tt) k (leaf_counts (grown ids stored d k b))
    unfolding leaf_counts grown
    tells_small zero k b = next_first _ _ tt refl (tells_none _ _ k (few (quarters b)) (fit k))
    tells_small (suc d) k b =
        let e : suc d - 1 ≡ d = omega arith in
        let sub : (j : ℕ) (a : Aabb) → RefusedNext (Ok tt) (Ok tt) j (counts (suc d - 1) j a) = λ j a. rw e (tells_small d j a) in
        tells_subs (subtree b (suc d) k) (λ z. omega arith) refl (sub _ _) (sub _ _) (sub _ _) (sub _ _)

-- a cell that has no more than fits in a leaf
pub tells_fits : (boxes numbers : List ℕ) (ts : List NavPoint) → length boxes ≤ 24576 → length numbers ≤ 2048 → length ts ≡ length numbers → (d : ℕ) (b : Aabb)
    → FirstRefused {A = Unit {0}} (Ok tt) 0 (leaf_counts (tree_by boxes numbers ts d 0 b))
tells_fits boxes numbers ts hb hl e d b =
    (tells_small (λ q. leaf_ids q 0 (boxes_in boxes)) (λ k. picked_from numbers k 0 ts)
    (λ q. omega (arith, ids_few q 0 (boxes_in boxes), items_length (box_at boxes) (λ at. at + 3) (length boxes / 3) 0)) (λ k. omega (arith, picked_few numbers k 0 ts)) d 0 b).told
