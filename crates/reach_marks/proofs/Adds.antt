-- What taking steps does to the marks: some that were 0 become 2, each of a polygon with a property, and the ones that are led to are not 0. Assumes nothing.
use Prim.Native.Nat.{ℕ, zero, suc, ◌<◌, ◌≤◌}
use mathlib.Core.Path.{◌≡◌, refl, sym, ◌∙◌}
use mathlib.Core.Bool.{Bool, true, false, cond}
use mathlib.Core.List.{List, [], ◌∷◌}
use mathlib.Core.Logic.{◌⊎◌, inl, inr, ⊎_elim}
use native.Mathlib.Omega.{arith}
use lib.Dec.{eqb, ltb}
use lib.ListN.{length, get_or, set, length-set}
use lib.Seq.{get_or-set_same, get_or-set_other}
use borrow.Author.Tests.{lt-ltb, ltb-true, eqb-true, eqb-false, eq-eqb, ne_eqb}
use Rattle.nobody.specs.Nobody.{cut, nobody}
use Rattle.strip.specs.Cell.{NavEdgeEnd, NavEdge, NavPortal}
use Rattle.reach_marks.specs.Step.{HalfLeads, EdgesLead, by_a, by_b, PortalLeads}
use Rattle.reach_marks.specs.Marks.{mark, half_pass, edge_pass, lead, cross, portal_pass}

pub record Adds (P : ℕ → Type 0) (m m' : List ℕ) : Type 0 where
  pub long : length m' ≡ length m
  pub each : (k : ℕ) → (get_or m' k 0 ≡ get_or m k 0) ⊎ ((get_or m k 0 ≡ 0) × (get_or m' k 0 ≡ 2) × P k)

pub not_zero : (a : ℕ) → (a ≡ 0 → ⊥) → 1 ≤ a
not_zero zero h = absurd (h refl)
not_zero (suc a) h = omega arith

-- an element after a store
pub stored : (m : List ℕ) (i a k : ℕ) → i < length m → ((k ≡ i) × (get_or (set m i a) k 0 ≡ a)) ⊎ (get_or (set m i a) k 0 ≡ get_or m k 0)
stored m i a k h = on (eqb k i) refl
  where
    on : (b : Bool) → eqb k i ≡ b → ((k ≡ i) × (get_or (set m i a) k 0 ≡ a)) ⊎ (get_or (set m i a) k 0 ≡ get_or m k 0)
    on true e = inl (eqb-true k i e, rw (eqb-true k i e) (get_or-set_same m i a 0 h))
    on false e = inr (get_or-set_other m i k a 0 (eqb-false k i e))

module _ (P : ℕ → Type 0) where
  pub adds_none : (m : List ℕ) → Adds P m m
  adds_none m = record { long = refl; each = λ k. inl refl }

  pub adds_more : {m m₁ m₂ : List ℕ} → Adds P m m₁ → Adds P m₁ m₂ → Adds P m m₂
  adds_more {m} {m₁} {m₂} a b =
      record {
        long = b.long ∙ a.long;
        each = λ k. ⊎_elim
            (λ e. ⊎_elim (λ f. inl (e ∙ f)) (λ f. inr (f.0, e ∙ f.1, f.2)) (a.each k))
            (λ e. ⊎_elim (λ f. inr (sym f ∙ e.0, e.1, e.2)) (λ f. absurd (omega arith)) (a.each k))
            (b.each k);
      }

  pub adds_seen : {m m' : List ℕ} → Adds P m m' → (k : ℕ) → 1 ≤ get_or m k 0 → 1 ≤ get_or m' k 0
  adds_seen a k h = ⊎_elim (λ e. omega arith) (λ e. omega arith) (a.each k)

  module _ (j : ℕ) (m : List ℕ) where
    mark_on : (b d : Bool) → ltb j (length m) ≡ b → eqb (get_or m j 0) 0 ≡ d → (j < length m → P j) → Adds P m (cond b (cond d (set m j 2) m) m)
    mark_on false d e f p = adds_none m
    mark_on true false e f p = adds_none m
    mark_on true true e f p =
        let h = ltb-true j (length m) e in
        let z = eqb-true (get_or m j 0) 0 f in
        record {
          long = length-set m j 2;
          each = λ k. ⊎_elim (λ w. inr (rw w.0 z, w.1, rw w.0 (p h))) inl (stored m j 2 k h);
        }

    pub mark_adds : (j < length m → P j) → Adds P m (mark j m)
    unfolding mark
    mark_adds = mark_on (ltb j (length m)) (eqb (get_or m j 0) 0) refl refl

  module _ (own : ℕ) (h : NavEdgeEnd) (m : List ℕ) (p : (j : ℕ) → HalfLeads own h j → j < length m → P j) where
    half_on : (b d : Bool) → eqb h.area own ≡ b → nobody h.poly ≡ d → Adds P m (cond b (cond d m (mark (cut h.poly) m)) m)
    half_on false d e f = adds_none m
    half_on true true e f = adds_none m
    half_on true false e f = mark_adds (cut h.poly) m (p (cut h.poly) (record { area = eqb-true _ _ e; poly = refl; some = f }))

    pub half_adds : Adds P m (half_pass own h m)
    unfolding half_pass
    half_adds = half_on (eqb h.area own) (nobody h.poly) refl refl

  pub edges_add : (own : ℕ) (es : List NavEdge) (m : List ℕ) → ((j : ℕ) → EdgesLead own es j → j < length m → P j) → Adds P m (edge_pass own es m)
  unfolding edge_pass
  edges_add own [] m p = adds_none m
  edges_add own (e ∷ es) m p =
      let a = half_adds own e.a m (λ j l. p j (by_a l)) in
      let b = half_adds own e.b (half_pass own e.a m) (λ j l k. p j (by_b l) (omega (arith, a.long))) in
      let ab = adds_more a b in
      adds_more ab (edges_add own es _ (λ j l k. p j (EdgesLead.later l) (omega (arith, ab.long))))

  -- a portal adds what it leads to from a seen polygon
  module _ (own : ℕ) (q : NavPortal) (m : List ℕ) (p : q.area_from ≡ own → q.area_to ≡ own → 1 ≤ get_or m q.poly_from 0 → q.poly_to < length m → P q.poly_to) where
    cross_on : (b d z : Bool) → eqb q.area_from own ≡ b → eqb q.area_to own ≡ d → eqb (get_or m q.poly_from 0) 0 ≡ z
        → Adds P m (cond b (cond d (cond z m (mark q.poly_to m)) m) m)
    cross_on false d z e f g = adds_none m
    cross_on true false z e f g = adds_none m
    cross_on true true true e f g = adds_none m
    cross_on true true false e f g =
        mark_adds q.poly_to m (p (eqb-true _ _ e) (eqb-true _ _ f) (not_zero _ (eqb-false _ _ g)))

    pub cross_adds : Adds P m (cross own q m)
    unfolding cross lead
    cross_adds = cross_on (eqb q.area_from own) (eqb q.area_to own) (eqb (get_or m q.poly_from 0) 0) refl refl refl

  pub portals_add : (own : ℕ) (qs : List NavPortal) (m : List ℕ) → ((k : ℕ) → 1 ≤ get_or m k 0 → P k)
      → ((i j : ℕ) → PortalLeads own qs i j → P i → j < length m → P j) → Adds P m (portal_pass own qs m)
  unfolding portal_pass
  portals_add own [] m s p = adds_none m
  portals_add own (q ∷ qs) m s p =
      let a = cross_adds own q m (λ f t l k. p _ _ (PortalLeads.here f t) (s _ l) k) in
      adds_more a
      (portals_add own qs (cross own q m) (λ k h. ⊎_elim (λ e. s k (omega arith)) (λ e. e.2) (a.each k))
      (λ i j l h k. p i j (PortalLeads.later l) h (omega (arith, a.long))))

-- what is led to is seen
pub mark_hits : (j : ℕ) (m : List ℕ) → j < length m → 1 ≤ get_or (mark j m) j 0
unfolding mark
mark_hits j m h = rw (lt-ltb j (length m) h) (on (eqb (get_or m j 0) 0) refl)
  where
    on : (d : Bool) → eqb (get_or m j 0) 0 ≡ d → 1 ≤ get_or (cond d (set m j 2) m) j 0
    on true e = omega (arith, get_or-set_same m j 2 0 h)
    on false e = not_zero _ (eqb-false _ _ e)

pub half_hits : (own : ℕ) (h : NavEdgeEnd) (m : List ℕ) (j : ℕ) → HalfLeads own h j → j < length m → 1 ≤ get_or (half_pass own h m) j 0
unfolding half_pass
half_hits own h m j l k = rw (eq-eqb _ _ l.area, l.some, l.poly) (mark_hits j m k)

abbrev pub Any : ℕ → Type 0
Any k = Unit

module _ (own : ℕ) (e : NavEdge) (m : List ℕ) where
  step_a : Adds Any m (half_pass own e.a m)
  step_a = half_adds Any own e.a m (λ j l k. tt)

  step_b : Adds Any (half_pass own e.a m) (half_pass own e.b (half_pass own e.a m))
  step_b = half_adds Any own e.b (half_pass own e.a m) (λ j l k. tt)

  step_rest : (es : List NavEdge) → Adds Any (half_pass own e.b (half_pass own e.a m)) (edge_pass own es (half_pass own e.b (half_pass own e.a m)))
  step_rest es = edges_add Any own es (half_pass own e.b (half_pass own e.a m)) (λ j l k. tt)

pub edges_hit : (own : ℕ) (es : List NavEdge) (m : List ℕ) (j : ℕ) → EdgesLead own es j → j < length m → 1 ≤ get_or (edge_pass own es m) j 0
unfolding edge_pass
edges_hit own [] m j x k = elim x [ ]
edges_hit own (e ∷ es) m j (by_a h) k = adds_seen Any (step_rest own e m es) j (adds_seen Any (step_b own e m) j (half_hits own e.a m j h k))
edges_hit own (e ∷ es) m j (by_b h) k =
    adds_seen Any (step_rest own e m es) j (half_hits own e.b (half_pass own e.a m) j h (omega (arith, (step_a own e m).long)))
edges_hit own (e ∷ es) m j (EdgesLead.later h) k =
    edges_hit own es (half_pass own e.b (half_pass own e.a m)) j h (omega (arith, (step_a own e m).long, (step_b own e m).long))

pub portals_hit : (own : ℕ) (qs : List NavPortal) (m : List ℕ) (i j : ℕ) → PortalLeads own qs i j → 1 ≤ get_or m i 0 → j < length m
    → 1 ≤ get_or (portal_pass own qs m) j 0
unfolding portal_pass cross lead
portals_hit own [] m i j x h k = elim x [ ]
portals_hit own (q ∷ qs) m i j (PortalLeads.here f t) h k =
    let r = portals_add Any own qs (cross own q m) (λ k h. tt) (λ i j l h k. tt) in
    adds_seen Any r j (rw (eq-eqb _ _ f, eq-eqb _ _ t, ne_eqb (get_or m i 0) 0 (λ z. omega arith)) (mark_hits j m k))
portals_hit own (q ∷ qs) m i j (PortalLeads.later l) h k =
    let a = cross_adds Any own q m (λ f t l k. tt) in
    portals_hit own qs (cross own q m) i j l (adds_seen Any a i h) (omega (arith, a.long))
