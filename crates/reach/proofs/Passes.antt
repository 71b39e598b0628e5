-- A pass of the definition keeps what is seen, and what has yet to take its steps after it was not seen before it. A pass that adds no mark leaves none
-- such. Assumes nothing.
use Prim.Native.Nat.{ℕ, ◌+◌, ◌<◌, ◌≤◌}
use mathlib.Core.Path.{◌≡◌, refl}
use mathlib.Core.Bool.{Bool, true, false}
use mathlib.Core.List.{List, [], ◌∷◌}
use mathlib.Core.Logic.{⊎_elim}
use native.Mathlib.Omega.{arith}
use lib.Dec.{eqb}
use lib.ListN.{length, get_or}
use borrow.Author.Tests.{eqb-true, eqb-false}
use Rattle.strip.specs.Cell.{NavPoly, NavPortal}
use Rattle.reach_marks.specs.Step.{served}
use Rattle.reach_marks.specs.Marks.{visit, marked}
use Rattle.reach_marks.proofs.Kept.{Kept, unseen, kept_same, kept_more, visit_kept, visit_done, portals_kept, seen_inside, count_grows, count_same}
use Rattle.reach.specs.Reached.{poly_pass, pass}

pub polys_kept : (own : ℕ) (ps : List NavPoly) (i : ℕ) (m : List ℕ) → i + length ps ≤ length m → Kept m (poly_pass own ps i m)
unfolding poly_pass
polys_kept own [] i m h = kept_same m
polys_kept own (p ∷ ps) i m h =
    let v = visit_kept own (served p) i m (omega arith) in
    kept_more v (polys_kept own ps (i + 1) (visit own (served p) i m) (omega (arith, v.long)))

polys_done : (own : ℕ) (ps : List NavPoly) (i : ℕ) (m : List ℕ) → i + length ps ≤ length m → (k : ℕ) → i ≤ k → k < i + length ps
    → get_or (poly_pass own ps i m) k 0 ≡ 2 → get_or m k 0 ≡ 0
unfolding poly_pass
polys_done own [] i m h k l o t = absurd (omega arith)
polys_done own (p ∷ ps) i m h k l o t =
    let v = visit_kept own (served p) i m (omega arith) in
    let m₁ = visit own (served p) i m in
    let h₁ : i + 1 + length ps ≤ length m₁ = omega (arith, v.long) in
    let here : k ≡ i → get_or m k 0 ≡ 0 =
    λ e. ⊎_elim (λ w. absurd (visit_done own (served p) i m (omega arith) (rw e at w))) (unseen v k) ((polys_kept own ps (i + 1) m₁ h₁).two k t) in
    let rest : i + 1 ≤ k → get_or m k 0 ≡ 0 = λ g. unseen v k (polys_done own ps (i + 1) m₁ h₁ k g (omega arith) t) in
    on here rest (eqb k i) refl
  where
    on : (k ≡ i → get_or m k 0 ≡ 0) → (i + 1 ≤ k → get_or m k 0 ≡ 0) → (b : Bool) → eqb k i ≡ b → get_or m k 0 ≡ 0
    on here rest true e = here (eqb-true k i e)
    on here rest false e = rest (omega (arith, eqb-false k i e))

module _ (own : ℕ) (ps : List NavPoly) (qs : List NavPortal) (m : List ℕ) (e : length ps ≡ length m) where
  passed_kept : Kept (poly_pass own ps 0 m) (pass own ps qs m)
  unfolding pass
  passed_kept = portals_kept own qs (poly_pass own ps 0 m)

  pub pass_kept : Kept m (pass own ps qs m)
  pass_kept = kept_more (polys_kept own ps 0 m (omega arith)) passed_kept

  pub pass_grows : marked m ≤ marked (pass own ps qs m)
  pass_grows = count_grows m (pass own ps qs m) pass_kept.long pass_kept.seen

  -- a pass that adds no mark
  module _ (c : marked (pass own ps qs m) ≡ marked m) where
    pub settled_before : (k : ℕ) → 1 ≤ get_or (pass own ps qs m) k 0 → 1 ≤ get_or (poly_pass own ps 0 m) k 0
    settled_before k h =
        (polys_kept own ps 0 m (omega arith)).seen k (count_same m (pass own ps qs m) pass_kept.long pass_kept.seen c k h)

    pub settled_done : (k : ℕ) → get_or (pass own ps qs m) k 0 ≡ 2 → ⊥
    settled_done k h =
        let b = count_same m (pass own ps qs m) pass_kept.long pass_kept.seen c k (omega arith) in
        let o : k < length m = seen_inside m k b in
        ⊎_elim (λ w. omega (arith, polys_done own ps 0 m (omega arith) k (omega arith) (omega arith) w)) (λ w. omega (arith, settled_before k (omega arith))) (passed_kept.two k h)
