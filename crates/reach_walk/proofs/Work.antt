-- Rows of steps join, and keep what `Kept` says; and what visiting a polygon comes to, by its record. Assumes nothing.
use Prim.Native.Nat.{ℕ, zero, suc, ◌+◌, ◌*◌, ◌≤◌, ◌<◌, min}
use mathlib.Core.Path.{◌≡◌, refl, ap, ◌∙◌}
use mathlib.Core.Logic.{⊎_elim}
use mathlib.Core.List.{List, ◌∷◌}
use Rattle.std.specs.Prelude.{Option, None, Some}
use native.Mathlib.Omega.{arith}
use lib.ListN.{length, get_or, set, take, get_or-eq_default}
use borrow.Author.Tests.{eq-eqb, ne_eqb}
use borrow.Author.Count.{below_more}
use Rattle.strip.specs.Reading.{items_at, vec_at, nav_edge_at, edges_at, poly_at, polygon_of, polygon_at, nav_portal_at}
use Rattle.strip.specs.Rows.{after, after_polygons}
use Rattle.strip.specs.declared.Poly.{Poly}
use Rattle.strip.proofs.Steps.{items_length}
use Rattle.reach_marks.specs.Step.{served}
use Rattle.reach_marks.specs.Marks.{edge_pass, visit}
use Rattle.reach_marks.proofs.Kept.{Kept, unseen, seen_inside, kept_same, kept_more, visit_kept, visit_done, cross_kept}
use Rattle.reach_places.specs.Places.{Places}
use Rattle.reach_places.proofs.Walk.{after_more, after_within}
use Rattle.reach_walk.specs.Walk.{Known, visited, Worked, same, polygon, portal, Left, Swept}
use Rattle.reach_walk.specs.declared.Ground.{Ground}

-- the edges that serve are the first, as many as there are vertices or fewer
take_items : {A : Type 0} (item : ℕ → A) (next : ℕ → ℕ) (v e k at : ℕ) → k ≡ min v e → take v (items_at item next at e) ≡ items_at item next at k
unfolding items_at
take_items item next zero e zero at h = refl
take_items item next zero e (suc k) at h = absurd (omega arith)
take_items item next (suc v) zero zero at h = refl
take_items item next (suc v) zero (suc k) at h = absurd (omega arith)
take_items item next (suc v) (suc e) zero at h = absurd (omega arith)
take_items item next (suc v) (suc e) (suc k) at h = ap (λ (l : List _). item at ∷ l) (take_items item next v e k (next at) (omega arith))

served_edges : (s : List ℕ) (p : Poly) (k : ℕ) → k ≡ min p.vertices p.edges → served (polygon_of s p) ≡ edges_at s p.edge_at k
unfolding polygon_of
served_edges s p k h =
    rw (items_length (vec_at s) (λ x. x + 3) p.vertices p.vertex_at) (take_items (nav_edge_at s) (λ x. x + 6) p.vertices p.edges k p.edge_at h)

module _ (s : List ℕ) (at i : ℕ) (p : Poly) (a : at ≡ after_polygons s 14 i) (e : p ≡ poly_at s at) where
  pub polygon_inside : (n stride : ℕ) (places : List ℕ) → Places s n stride places → i < n → p.next ≤ length s
  unfolding after
  polygon_inside n stride places t h =
      let next : after_polygons s at 1 ≡ after_polygons s 14 (i + 1) = ap (λ x. after_polygons s x 1) a ∙ after_more (λ x. (poly_at s x).next) i 1 14 in
      omega (arith, ap (λ (x : Poly). x.next) e, next, after_within s 14 (i + 1) n (omega arith), t.inside)

  pub visit_is : (own k : ℕ) (m m₁ : List ℕ) → k ≡ min p.vertices p.edges → m₁ ≡ edge_pass own (edges_at s p.edge_at k) m → get_or m i 0 ≡ 2
      → set m₁ i 1 ≡ visit own (served (polygon_at s (after_polygons s 14 i))) i m
  unfolding visit
  visit_is own k m m₁ l f h = rw (eq-eqb _ _ h, ← a, ← e, served_edges s p k l, ← f)

pub visit_not : (own i : ℕ) (s m : List ℕ) → (get_or m i 0 ≡ 2 → ⊥) → m ≡ visit own (served (polygon_at s (after_polygons s 14 i))) i m
unfolding visit
visit_not own i s m h = rw (ne_eqb _ _ h)

pub no_mark : (m : List ℕ) (i : ℕ) → length m ≤ i → get_or m i 0 ≡ 2 → ⊥
no_mark m i h t = omega (arith, get_or-eq_default m 0 h)

module _ (s : List ℕ) (g : Ground) where
  pub worked_kept : {m m' : List ℕ} → Worked s g m m' → Kept m m'
  worked_kept {m} same = kept_same m
  worked_kept (polygon {m'} w i h) =
      let k = worked_kept w in
      kept_more k (visit_kept g.own (served (polygon_at s (after_polygons s 14 i))) i m' (omega (arith, k.long)))
  worked_kept (portal {m'} w k h) = kept_more (worked_kept w) (cross_kept g.own (nav_portal_at s (g.portal_at + 11 * k)) m')

  pub worked_more : {m m₁ m₂ : List ℕ} → Worked s g m m₁ → Worked s g m₁ m₂ → Worked s g m m₂
  worked_more w same = w
  worked_more w (polygon v i h) = polygon (worked_more w v) i (omega (arith, (worked_kept w).long))
  worked_more w (portal v k h) = portal (worked_more w v) k h

  -- more work after a polygon is left: it is left still
  pub left_more : {m m₁ m₂ : List ℕ} {i : ℕ} → Left s g i m m₁ → Worked s g m₁ m₂ → Left s g i m m₂
  left_more {m} {m₁} {m₂} {i} l w =
      record {
        worked = worked_more l.worked w;
        done = λ t. ⊎_elim l.done (unseen (worked_kept l.worked) i) ((worked_kept w).two i t);
      }

  pub left_visited : {m m₁ : List ℕ} {i : ℕ} → i < length m → m₁ ≡ visited s g i m → Left s g i m m₁
  left_visited {m} {m₁} {i} h e =
      rw e (record { worked = polygon same i h; done = λ t. absurd (visit_done g.own (served (polygon_at s (after_polygons s 14 i))) i m h t) })

  -- a polygon that has taken its steps, or is none
  pub left_none : {m : List ℕ} {i : ℕ} → (get_or m i 0 ≡ 2 → ⊥) → Left s g i m m
  left_none h = record { worked = same; done = λ t. absurd (h t) }

  -- the sweep, up to polygon i
  pub record Sweeping (m : List ℕ) (i : ℕ) (m' : List ℕ) : Type 0 where
    pub worked : Worked s g m m'
    pub done : (k : ℕ) → k < i → get_or m' k 0 ≡ 2 → get_or m k 0 ≡ 0

  pub sweep_turn : {m m₁ m₂ : List ℕ} {i : ℕ} → Sweeping m i m₁ → Left s g i m₁ m₂ → Sweeping m (i + 1) m₂
  sweep_turn {m} {m₁} {m₂} {i} r l =
      record {
        worked = worked_more r.worked l.worked;
        done = below_more (λ k. get_or m₂ k 0 ≡ 2 → get_or m k 0 ≡ 0) i
            (λ k h. λ t. ⊎_elim (r.done k h) (unseen (worked_kept r.worked) k) ((worked_kept l.worked).two k t))
            (λ t. unseen (worked_kept r.worked) i (l.done t));
      }

  pub sweep_end : {m m' : List ℕ} {i : ℕ} → Sweeping m i m' → length m ≤ i → Swept s g m m'
  sweep_end {m} {m'} {i} r h =
      record {
        worked = r.worked;
        done = λ k t. r.done k (inside (seen k t)) t;
      }
    where
      seen : (k : ℕ) → get_or m' k 0 ≡ 2 → k < length m'
      seen k t = seen_inside m' k (omega arith)

      inside : {k : ℕ} → k < length m' → k < i
      inside l = omega (arith, (worked_kept r.worked).long)

-- of as many polygons
pub known_still : {s : List ℕ} {g : Ground} {places : List ℕ} (n n' : ℕ) → n' ≡ n → Known s n g places → Known s n' g places
known_still n n' e k = rw e k

-- how long a chain can still be that goes on with a portal, or ends
abbrev pub chain_left : Option ℕ → ℕ
chain_left None = 0
chain_left (Some k) = suc k
