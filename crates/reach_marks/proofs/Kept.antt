-- Steps keep what is seen, and what has yet to take its steps after them had yet to before, or was not seen; and how many are seen, by which it is known
-- that nothing was added. Assumes nothing.
use Prim.Native.Nat.{ℕ, zero, suc, ◌<◌, ◌≤◌}
use mathlib.Core.Path.{◌≡◌, refl, sym, ◌∙◌}
use mathlib.Core.Bool.{Bool, true, false, cond}
use mathlib.Core.List.{List, [], ◌∷◌}
use mathlib.Core.Logic.{◌⊎◌, inl, inr, ⊎_elim}
use native.Mathlib.Omega.{arith}
use lib.Dec.{eqb}
use lib.ListN.{length, get_or, set, length-set}
use lib.Seq.{get_or-set_same}
use borrow.Author.Tests.{eqb-false}
use Rattle.strip.specs.Cell.{NavEdge, NavPortal}
use Rattle.reach_marks.specs.Marks.{edge_pass, visit, cross, portal_pass, marked}
use Rattle.reach_marks.proofs.Adds.{Adds, Any, stored, adds_seen, edges_add, cross_adds, portals_add}

pub record Kept (m m' : List ℕ) : Type 0 where
  pub long : length m' ≡ length m
  pub seen : (k : ℕ) → 1 ≤ get_or m k 0 → 1 ≤ get_or m' k 0
  pub two : (k : ℕ) → get_or m' k 0 ≡ 2 → (get_or m k 0 ≡ 2) ⊎ (get_or m k 0 ≡ 0)

pub unseen : {m m' : List ℕ} → Kept m m' → (k : ℕ) → get_or m' k 0 ≡ 0 → get_or m k 0 ≡ 0
unseen {m} {m'} a k h = on (get_or m k 0) refl
  where
    on : (n : ℕ) → get_or m k 0 ≡ n → get_or m k 0 ≡ 0
    on zero e = e
    on (suc n) e = absurd (omega (arith, a.seen k (omega arith)))

pub kept_more : {m m₁ m₂ : List ℕ} → Kept m m₁ → Kept m₁ m₂ → Kept m m₂
kept_more a b =
    record {
      long = b.long ∙ a.long;
      seen = λ k h. b.seen k (a.seen k h);
      two = λ k h. ⊎_elim (a.two k) (λ e. inr (unseen a k e)) (b.two k h);
    }

pub adds_kept : {P : ℕ → Type 0} {m m' : List ℕ} → Adds P m m' → Kept m m'
adds_kept {P} a =
    record { long = a.long; seen = adds_seen P a; two = λ k h. ⊎_elim (λ e. inl (sym e ∙ h)) (λ e. inr e.0) (a.each k) }

module _ (own : ℕ) (es : List NavEdge) (i : ℕ) (m : List ℕ) (h : i < length m) where
  visit_on : (b : Bool) → eqb (get_or m i 0) 2 ≡ b → Kept m (cond b (set (edge_pass own es m) i 1) m) × (get_or (cond b (set (edge_pass own es m) i 1) m) i 0 ≡ 2 → ⊥)
  visit_on false e = (record { long = refl; seen = λ k l. l; two = λ k l. inl l }, eqb-false _ _ e)
  visit_on true e =
      let a = adds_kept (edges_add Any own es m (λ j l k. tt)) in
      let m₁ = edge_pass own es m in
      let h₁ : i < length m₁ = omega (arith, a.long) in (
        record {
          long = length-set m₁ i 1 ∙ a.long;
          seen = λ k l. ⊎_elim (λ w. omega arith) (λ w. omega (arith, a.seen k l)) (stored m₁ i 1 k h₁);
          two = λ k l. ⊎_elim (λ w. absurd (omega arith)) (λ w. a.two k (sym w ∙ l)) (stored m₁ i 1 k h₁);
        },
        λ l. omega (arith, get_or-set_same m₁ i 1 0 h₁),
      )

  pub visit_kept : Kept m (visit own es i m)
  unfolding visit
  visit_kept = (visit_on (eqb (get_or m i 0) 2) refl).0

  pub visit_done : get_or (visit own es i m) i 0 ≡ 2 → ⊥
  unfolding visit
  visit_done = (visit_on (eqb (get_or m i 0) 2) refl).1

pub kept_same : (m : List ℕ) → Kept m m
kept_same m = record { long = refl; seen = λ k l. l; two = λ k l. inl l }

pub cross_kept : (own : ℕ) (q : NavPortal) (m : List ℕ) → Kept m (cross own q m)
cross_kept own q m = adds_kept (cross_adds Any own q m (λ f t l k. tt))

pub portals_kept : (own : ℕ) (qs : List NavPortal) (m : List ℕ) → Kept m (portal_pass own qs m)
portals_kept own qs m = adds_kept (portals_add Any own qs m (λ k h. tt) (λ i j l h k. tt))

pub seen_inside : (m : List ℕ) (k : ℕ) → 1 ≤ get_or m k 0 → k < length m
seen_inside [] k h = absurd (omega arith)
seen_inside (a ∷ m) zero h = omega arith
seen_inside (a ∷ m) (suc k) h = omega (arith, seen_inside m k h)

-- the counts
pub count_top : (m : List ℕ) → marked m ≤ length m
unfolding marked
count_top [] = omega arith
count_top (zero ∷ m) = omega (arith, count_top m)
count_top (suc a ∷ m) = omega (arith, count_top m)

pub count_grows : (m m' : List ℕ) → length m' ≡ length m → ((k : ℕ) → 1 ≤ get_or m k 0 → 1 ≤ get_or m' k 0) → marked m ≤ marked m'
unfolding marked
count_grows [] [] e h = omega arith
count_grows [] (b ∷ m') e h = absurd (omega arith)
count_grows (a ∷ m) [] e h = absurd (omega arith)
count_grows (zero ∷ m) (zero ∷ m') e h = omega (arith, count_grows m m' (omega arith) (λ k. h (suc k)))
count_grows (zero ∷ m) (suc b ∷ m') e h = omega (arith, count_grows m m' (omega arith) (λ k. h (suc k)))
count_grows (suc a ∷ m) (zero ∷ m') e h = absurd (omega (arith, h zero (omega arith)))
count_grows (suc a ∷ m) (suc b ∷ m') e h = omega (arith, count_grows m m' (omega arith) (λ k. h (suc k)))

pub count_same : (m m' : List ℕ) → length m' ≡ length m → ((k : ℕ) → 1 ≤ get_or m k 0 → 1 ≤ get_or m' k 0) → marked m' ≡ marked m
    → (k : ℕ) → 1 ≤ get_or m' k 0 → 1 ≤ get_or m k 0
unfolding marked
count_same [] [] e h c k l = l
count_same [] (b ∷ m') e h c k l = absurd (omega arith)
count_same (a ∷ m) [] e h c k l = absurd (omega arith)
count_same (zero ∷ m) (zero ∷ m') e h c zero l = l
count_same (zero ∷ m) (zero ∷ m') e h c (suc k) l = count_same m m' (omega arith) (λ k. h (suc k)) (omega arith) k l
count_same (zero ∷ m) (suc b ∷ m') e h c k l = absurd (omega (arith, count_grows m m' (omega arith) (λ k. h (suc k))))
count_same (suc a ∷ m) (zero ∷ m') e h c k l = absurd (omega (arith, h zero (omega arith)))
count_same (suc a ∷ m) (suc b ∷ m') e h c zero l = omega arith
count_same (suc a ∷ m) (suc b ∷ m') e h c (suc k) l = count_same m m' (omega arith) (λ k. h (suc k)) (omega arith) k l
