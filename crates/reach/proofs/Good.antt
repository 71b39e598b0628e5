-- What holds of the marks between steps, and at the end: then a mark is 1 exactly where a chain of steps leads, and otherwise 0. Assumes nothing.
use Prim.Native.Nat.{ℕ, zero, suc, ◌<◌, ◌≤◌}
use mathlib.Core.Path.{◌≡◌, refl, sym, ◌∙◌}
use mathlib.Core.Bool.{Bool, true, false, cond}
use mathlib.Core.List.{List}
use mathlib.Core.Logic.{◌⊎◌, inl, inr, ⊎_elim}
use native.Mathlib.Omega.{arith}
use lib.Dec.{eqb}
use lib.ListN.{length, get_or, set, length-set}
use lib.Seq.{ext_get_or}
use borrow.Author.Tests.{eqb-true}
use Rattle.strip.specs.Cell.{Cell, NavEdge}
use Rattle.reach_marks.specs.Step.{EdgesLead, PolygonLeads, PortalLeads, Reach}
use Rattle.reach_marks.specs.Marks.{edge_pass, visit}
use Rattle.reach_marks.proofs.Adds.{Adds, stored, adds_seen, edges_add, edges_hit}

-- what holds between steps: a mark is 0, 1 or 2, what is marked is reached, and what a done polygon's edges lead to is marked
pub record Good (c : Cell) (from : ℕ) (m : List ℕ) : Type 0 where
  pub long : length m ≡ length c.polys
  pub small : (k : ℕ) → get_or m k 0 ≤ 2
  pub sound : (k : ℕ) → 1 ≤ get_or m k 0 → Reach c from k
  pub closed : (i j : ℕ) → get_or m i 0 ≡ 1 → PolygonLeads c.head.area c.polys i j → j < length m → 1 ≤ get_or m j 0

one_of : (a : ℕ) → 1 ≤ a → a ≤ 2 → (a ≡ 2 → ⊥) → a ≡ 1
one_of a l h n = omega (arith, n)

module _ (c : Cell) (from : ℕ) where
  pub adds_good : {m m' : List ℕ} → Good c from m → Adds (Reach c from) m m' → Good c from m'
  adds_good {m} {m'} g a =
      record {
        long = a.long ∙ g.long;
        small = λ k. ⊎_elim (λ e. omega (arith, g.small k)) (λ e. omega arith) (a.each k);
        sound = λ k h. ⊎_elim (λ e. g.sound k (omega arith)) (λ e. e.2) (a.each k);
        closed = λ i j h l o. adds_seen (Reach c from) a j (g.closed i j (⊎_elim (λ e. sym e ∙ h) (λ e. absurd (omega arith)) (a.each i)) l (omega (arith, a.long)));
      }

  module _ (i : ℕ) (m : List ℕ) (h : i < length m) (g : Good c from m) (s : 1 ≤ get_or m i 0)
      (all : (j : ℕ) → PolygonLeads c.head.area c.polys i j → j < length m → 1 ≤ get_or m j 0) where
    seen_set : (k : ℕ) → 1 ≤ get_or m k 0 → 1 ≤ get_or (set m i 1) k 0
    seen_set k l = ⊎_elim (λ w. omega arith) (λ w. omega arith) (stored m i 1 k h)

    done_good : Good c from (set m i 1)
    done_good =
        record {
          long = length-set m i 1 ∙ g.long;
          small = λ k. ⊎_elim (λ w. omega arith) (λ w. omega (arith, g.small k)) (stored m i 1 k h);
          sound = λ k l. ⊎_elim (λ w. g.sound k (rw w.0 s)) (λ w. g.sound k (omega arith)) (stored m i 1 k h);
          closed = λ k j l p o.
              ⊎_elim (λ w. seen_set j (all j (rw w.0 at p) (omega (arith, length-set m i 1))))
              (λ w. seen_set j (g.closed k j (sym w ∙ l) p (omega (arith, length-set m i 1)))) (stored m i 1 k h);
        }

  -- the edges are those of the polygon of a number
  module _ (es : List NavEdge) (i : ℕ) (m : List ℕ) (h : i < length m) (g : Good c from m)
      (to : (j : ℕ) → EdgesLead c.head.area es j → PolygonLeads c.head.area c.polys i j)
      (of : (j : ℕ) → PolygonLeads c.head.area c.polys i j → EdgesLead c.head.area es j) where
    visit_on : (b : Bool) → eqb (get_or m i 0) 2 ≡ b → Good c from (cond b (set (edge_pass c.head.area es m) i 1) m)
    visit_on false e = g
    visit_on true e =
        let two = eqb-true (get_or m i 0) 2 e in
        let a = edges_add (Reach c from) c.head.area es m (λ j l o. Reach.step (g.sound i (omega arith)) (omega (arith, g.long), inl (to j l))) in
        done_good i (edge_pass c.head.area es m) (omega (arith, a.long)) (adds_good g a) (adds_seen (Reach c from) a i (omega arith))
        (λ j l o. edges_hit c.head.area es m j (of j l) (omega (arith, a.long)))

    pub visit_good : Good c from (visit c.head.area es i m)
    unfolding visit
    visit_good = visit_on (eqb (get_or m i 0) 2) refl

  -- the end: no mark is 2, and what a portal leads to is marked
  pub record Final (m : List ℕ) : Type 0 where
    pub good : Good c from m
    pub first : 1 ≤ get_or m from 0
    pub done : (k : ℕ) → get_or m k 0 ≡ 2 → ⊥
    pub crossed : (i j : ℕ) → PortalLeads c.head.area c.portals i j → 1 ≤ get_or m i 0 → j < length m → 1 ≤ get_or m j 0

  pub reach_marked : {m : List ℕ} → Final m → (i : ℕ) → Reach c from i → 1 ≤ get_or m i 0
  reach_marked f i Reach.start = f.first
  reach_marked f i (Reach.step {i = h} r (o, inl l)) =
      f.good.closed h i (one_of _ (reach_marked f h r) (f.good.small h) (f.done h)) l (omega (arith, f.good.long))
  reach_marked f i (Reach.step {i = h} r (o, inr l)) = f.crossed h i l (reach_marked f h r) (omega (arith, f.good.long))

  pub final_reach : {m : List ℕ} → Final m → (i : ℕ) → ((get_or m i 0 ≡ 1) × Reach c from i) ⊎ ((get_or m i 0 ≡ 0) × (Reach c from i → ⊥))
  final_reach {m} f i = on (get_or m i 0) refl
    where
      on : (a : ℕ) → get_or m i 0 ≡ a → ((get_or m i 0 ≡ 1) × Reach c from i) ⊎ ((get_or m i 0 ≡ 0) × (Reach c from i → ⊥))
      on zero e = inr (e, λ r. omega (arith, reach_marked f i r))
      on (suc a) e = inl (one_of _ (omega arith) (f.good.small i) (f.done i), f.good.sound i (omega arith))

  -- so there are no other marks at the end, in whichever order the steps were taken
  pub final_same : {m m' : List ℕ} → Final m → Final m' → m ≡ m'
  final_same {m} {m'} f f' =
      ext_get_or 0 m m' (f.good.long ∙ sym f'.good.long)
      (λ i h. ⊎_elim
      (λ (one, r). ⊎_elim (λ (one', r'). one ∙ sym one') (λ (none', n). absurd (n r)) (final_reach f' i))
      (λ (none, n). ⊎_elim (λ (one', r). absurd (n r)) (λ (none', n'). none ∙ sym none') (final_reach f' i))
      (final_reach f i))
