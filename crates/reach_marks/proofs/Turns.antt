-- That a step taken again changes nothing, what a turn of each loop does to the marks, and what is counted. Assumes nothing.
use Prim.Native.Nat.{ℕ, zero, suc, ◌+◌, ◌-◌, ◌*◌, ◌<◌, ◌≤◌}
use mathlib.Core.Path.{◌≡◌, refl, ◌∙◌}
use mathlib.Core.Bool.{Bool, true, false, cond}
use mathlib.Core.List.{List, ◌∷◌}
use native.Mathlib.Omega.{arith}
use lib.Dec.{eqb, ltb}
use lib.ListN.{length, get_or, set, length-set}
use lib.Seq.{get_or-set_same}
use borrow.Author.Tests.{ltb-true, ne_eqb}
use Rattle.std.proofs.Common.{not}
use Rattle.std.specs.List.{count_by}
use Rattle.std.proofs.lemmas.List.Recursion.{is_count_by}
use Rattle.strip.specs.Reading.{half_at, nav_edge_at, edges_at, nav_portal_at}
use Rattle.strip.specs.Rows.{portals_at}
use Rattle.strip.proofs.Steps.{items_turn, items_done}
use Rattle.reach_marks.specs.Marks.{mark, half_pass, edge_pass, lead, cross, portal_pass, marked}

-- to see a polygon again changes nothing, nor does a portal's step that is taken again: what the must-fail edit with portals both ways is held to
mark_again : (j : ℕ) (m : List ℕ) → mark j (mark j m) ≡ mark j m
unfolding mark
mark_again j m = on (ltb j (length m)) (eqb (get_or m j 0) 0) refl refl
  where
    on : (b d : Bool) → ltb j (length m) ≡ b → eqb (get_or m j 0) 0 ≡ d → mark j (cond b (cond d (set m j 2) m) m) ≡ cond b (cond d (set m j 2) m) m
    on false d e f = rw e
    on true false e f = rw (e, f)
    on true true e f = rw (length-set m j 2, e, get_or-set_same m j 2 0 (ltb-true j (length m) e))

pub lead_again : (from to from' to' : ℕ) (m m₁ m₂ : List ℕ) → from' ≡ from → to' ≡ to → m₁ ≡ lead from to m → m₂ ≡ lead from' to' m₁ → m₂ ≡ lead from to m
unfolding lead
lead_again from to from' to' m m₁ m₂ f t e₁ e₂ = rw (e₂, e₁, f, t) (on (eqb (get_or m from 0) 0) refl)
  where
    same : (b : Bool) (x y : List ℕ) → y ≡ x → cond b x y ≡ x
    same true x y e = refl
    same false x y e = e

    on : (z : Bool) → eqb (get_or m from 0) 0 ≡ z → lead from to (cond z m (mark to m)) ≡ cond z m (mark to m)
    on true e = rw e
    on false e = same (eqb (get_or (mark to m) from 0) 0) (mark to m) (mark to (mark to m)) (mark_again to m)

module _ (s : List ℕ) (own at i n : ℕ) (h : i < n) (m : List ℕ) where
  pub edge_turn : (whole m₁ m₂ : List ℕ) (b : ℕ) → whole ≡ edge_pass own (edges_at s (at + 6 * i) (n - i)) m → m₁ ≡ half_pass own (half_at s (at + 6 * i)) m
      → m₂ ≡ half_pass own (half_at s b) m₁ → b ≡ at + 6 * i + 3 → whole ≡ edge_pass own (edges_at s (at + 6 * (i + 1)) (n - (i + 1))) m₂
  unfolding edge_pass
  edge_turn whole m₁ m₂ b k e₁ e₂ h₂ =
      let next : at + 6 * (i + 1) ≡ at + 6 * i + 6 = omega arith in
      rw (e₂, e₁, h₂, next) (k ∙ rw (items_turn (nav_edge_at s) (λ x. x + 6) (at + 6 * i) i n h))

  pub portal_turn : (whole m₁ : List ℕ) → whole ≡ portal_pass own (portals_at s (at + 11 * i) (n - i)) m → m₁ ≡ cross own (nav_portal_at s (at + 11 * i)) m
      → whole ≡ portal_pass own (portals_at s (at + 11 * (i + 1)) (n - (i + 1))) m₁
  unfolding portal_pass
  portal_turn whole m₁ k e =
      let next : at + 11 * (i + 1) ≡ at + 11 * i + 11 = omega arith in
      rw (e, next) (k ∙ rw (items_turn (nav_portal_at s) (λ x. x + 11) (at + 11 * i) i n h))

module _ (s : List ℕ) (own at i n : ℕ) (h : n ≤ i) (m : List ℕ) where
  pub edges_done : edge_pass own (edges_at s (at + 6 * i) (n - i)) m ≡ m
  unfolding edge_pass
  edges_done = rw (items_done (nav_edge_at s) (λ x. x + 6) (at + 6 * i) i n h)

  pub portals_done : portal_pass own (portals_at s (at + 11 * i) (n - i)) m ≡ m
  unfolding portal_pass
  portals_done = rw (items_done (nav_portal_at s) (λ x. x + 11) (at + 11 * i) i n h)

-- how many are seen are those that are not 0
pub marked_counts : (m : List ℕ) → marked m ≡ count_by (λ a. not (eqb a 0)) m
unfolding marked
marked_counts = is_count_by marked (λ a. not (eqb a 0)) refl one
  where
    one : (a : ℕ) (m : List ℕ) → marked (a ∷ m) ≡ cond (not (eqb a 0)) (1 + marked m) (marked m)
    one zero m = refl
    one (suc a) m = rw (ne_eqb (suc a) 0 (λ e. omega arith))
