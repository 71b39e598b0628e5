-- The marks of the definition are what the relation says: 1 exactly where a chain of steps leads, and otherwise 0; so the count is that of the ones.
-- Assumes nothing.
use Prim.Native.Nat.{ℕ, zero, suc, ◌+◌, ◌<◌, ◌≤◌}
use mathlib.Core.Path.{◌≡◌, refl, sym, ◌∙◌}
use mathlib.Core.Bool.{Bool, true, false, cond}
use mathlib.Core.List.{List, [], ◌∷◌}
use mathlib.Core.Logic.{◌⊎◌, inl, inr, ⊎_elim}
use native.Mathlib.Nat.{add-zero, zero-add}
use native.Mathlib.Omega.{arith}
use lib.Dec.{eqb}
use lib.ListN.{length, get_or, set, replicate, length-set, length-replicate}
use lib.Seq.{get_or-set_same}
use borrow.Author.Tests.{eqb-true, eqb-false}
use Rattle.strip.specs.Cell.{Cell, NavPoly}
use Rattle.reach_marks.specs.Step.{EdgesLead, PolygonLeads, served, Reach}
use Rattle.reach_marks.specs.Marks.{visit, marked}
use Rattle.reach_marks.proofs.Adds.{stored, portals_add, portals_hit}
use Rattle.reach_marks.proofs.Kept.{Kept, count_top}
use Rattle.reach.specs.Reached.{poly_pass, pass, settle, marks_of}
use Rattle.reach.specs.Answers.{total}
use Rattle.reach.proofs.Passes.{polys_kept, pass_kept, pass_grows, settled_before, settled_done}
use Rattle.reach.proofs.Good.{Good, adds_good, visit_good, Final, final_reach}

-- the first marks, one to a polygon
pub first_length : (n start : ℕ) → length {A = ℕ} (set (replicate n 0) start 2) ≡ n
first_length n start = length-set (replicate n 0) start 2 ∙ length-replicate {A = ℕ} n 0

module _ (c : Cell) (from : ℕ) where
  -- the polygons are those from a number on
  polys_good : (ps : List NavPoly) (i : ℕ) (m : List ℕ) → i + length ps ≤ length m → Good c from m
      → ((k j : ℕ) → PolygonLeads c.head.area ps k j → PolygonLeads c.head.area c.polys (i + k) j)
      → ((k j : ℕ) → PolygonLeads c.head.area c.polys (i + k) j → PolygonLeads c.head.area ps k j)
      → Good c from (poly_pass c.head.area ps i m)
  unfolding poly_pass
  polys_good [] i m h g to of = g
  polys_good (p ∷ ps) i m h g to of =
      let v = visit_good c from (served p) i m (omega arith) g (λ j l. rw (add-zero i) at (to 0 j (PolygonLeads.here l))) (λ j l. edges_of p ps j (of 0 j (rw (add-zero i) l))) in
      polys_good ps (i + 1) (visit c.head.area (served p) i m) (omega (arith, v.long, g.long)) v
      (λ k j l. rw (shift i k) (to (suc k) j (PolygonLeads.later l))) (λ k j l. rest_of p ps k j (of (suc k) j (rw (shift i k) at l)))
    where
      shift : (i k : ℕ) → i + 1 + k ≡ i + suc k
      shift i k = omega arith

      edges_of : (p : NavPoly) (ps : List NavPoly) (j : ℕ) → PolygonLeads c.head.area (p ∷ ps) zero j → EdgesLead c.head.area (served p) j
      edges_of p ps j (PolygonLeads.here l) = l

      rest_of : (p : NavPoly) (ps : List NavPoly) (k j : ℕ) → PolygonLeads c.head.area (p ∷ ps) (suc k) j → PolygonLeads c.head.area ps k j
      rest_of p ps k j (PolygonLeads.later l) = l

  abbrev go : List ℕ → List ℕ
  go = pass c.head.area c.polys c.portals

  pass_good : (m : List ℕ) → Good c from m → Good c from (go m)
  unfolding pass
  pass_good m g =
      let p = polys_good c.polys 0 m (omega (arith, g.long)) g (λ k j l. rw (zero-add k) l) (λ k j l. rw (zero-add k) at l) in
      adds_good c from p
      (portals_add (Reach c from) c.head.area c.portals (poly_pass c.head.area c.polys 0 m) p.sound
      (λ i j l r o. Reach.step r (omega (arith, p.long), inr l)))

  module _ (m : List ℕ) (g : Good c from m) (f : 1 ≤ get_or m from 0) where
    kept : Kept m (go m)
    kept = pass_kept c.head.area c.polys c.portals m (sym g.long)

    pass_final : marked (go m) ≡ marked m → Final c from (go m)
    unfolding pass
    pass_final e =
        record {
          good = pass_good m g;
          first = kept.seen from f;
          done = settled_done c.head.area c.polys c.portals m (sym g.long) e;
          crossed = λ i j l h o.
              portals_hit c.head.area c.portals (poly_pass c.head.area c.polys 0 m) i j l
              (settled_before c.head.area c.polys c.portals m (sym g.long) e i h) (omega (arith, kept.long, (polys_kept c.head.area c.polys 0 m (omega (arith, g.long))).long));
        }

  settle_final : (t : ℕ) (m : List ℕ) → length m < t + marked m → Good c from m → 1 ≤ get_or m from 0 → Final c from (settle go t m)
  unfolding settle
  settle_final zero m h g f = absurd (omega (arith, count_top m))
  settle_final (suc t) m h g f =
      let k = kept m g f in
      on (eqb (marked (go m)) (marked m)) refl (pass_final m g f)
      (λ n. settle_final t (go m) (omega (arith, k.long, pass_grows c.head.area c.polys c.portals m (sym g.long), n)) (pass_good m g) (k.seen from f))
    where
      on : (b : Bool) → eqb (marked (go m)) (marked m) ≡ b → (marked (go m) ≡ marked m → Final c from (go m)) → ((marked (go m) ≡ marked m → ⊥) → Final c from (settle go t (go m)))
          → Final c from (cond b (go m) (settle go t (go m)))
      on true e last more = last (eqb-true _ _ e)
      on false e last more = more (eqb-false _ _ e)

  -- only the start is marked at first, and nothing is done
  module _ (h : from < length c.polys) where
    abbrev first : List ℕ
    first = set (replicate (length c.polys) 0) from 2

    first_at : (k : ℕ) → ((k ≡ from) × (get_or first k 0 ≡ 2)) ⊎ (get_or first k 0 ≡ 0)
    first_at k =
        ⊎_elim inl (λ w. inr (w ∙ none (length c.polys) k)) (stored (replicate (length c.polys) 0) from 2 k (rw (length-replicate {A = ℕ} (length c.polys) 0) h))
      where
        none : (n k : ℕ) → get_or {A = ℕ} (replicate n 0) k 0 ≡ 0
        none zero k = refl
        none (suc n) zero = refl
        none (suc n) (suc k) = none n k

    pub first_good : Good c from first
    first_good =
        record {
          long = first_length (length c.polys) from;
          small = λ k. ⊎_elim (λ w. omega arith) (λ w. omega arith) (first_at k);
          sound = λ k l. ⊎_elim (λ w. rw w.0 Reach.start) (λ w. absurd (omega arith)) (first_at k);
          closed = λ i j l p o. absurd (⊎_elim (λ w. omega arith) (λ w. omega arith) (first_at i));
        }

    pub first_seen : 1 ≤ get_or first from 0
    first_seen = omega (arith, get_or-set_same {A = ℕ} (replicate (length c.polys) 0) from 2 0 (rw (length-replicate {A = ℕ} (length c.polys) 0) h))

    pub final : Final c from (marks_of c from)
    unfolding marks_of
    final = settle_final (suc (length c.polys)) first (omega (arith, first_good.long)) first_good first_seen

    pub marks_length : length (marks_of c from) ≡ length c.polys
    marks_length = final.good.long

    pub marks_reach : (i : ℕ) → ((get_or (marks_of c from) i 0 ≡ 1) × Reach c from i) ⊎ ((get_or (marks_of c from) i 0 ≡ 0) × (Reach c from i → ⊥))
    marks_reach = final_reach c from final

-- so the count is that of the ones
count_total : (m : List ℕ) → ((k : ℕ) → get_or m k 0 ≤ 1) → marked m ≡ total m
unfolding marked total
count_total [] h = refl
count_total (zero ∷ m) h = omega (arith, count_total m (λ k. h (suc k)))
count_total (suc zero ∷ m) h = omega (arith, count_total m (λ k. h (suc k)))
count_total (suc (suc a) ∷ m) h = absurd (omega (arith, h zero))

pub marks_total : (c : Cell) (from : ℕ) → from < length c.polys → marked (marks_of c from) ≡ total (marks_of c from)
marks_total c from h = count_total (marks_of c from) (λ k. ⊎_elim (λ w. omega arith) (λ w. omega arith) (marks_reach c from h k))
