-- The test of two areas and what it says of them, as facts about numbers; and the same by an own id's neighbours, two in its row and two in its column.
use Prim.Native.Nat.{ℕ, ◌<◌, ◌≤◌}
use mathlib.Core.Path.{◌≡◌, refl, sym}
use mathlib.Core.Bool.{Bool, true, false, ◌&&◌, ◌||◌, false≢true, or_comm}
use mathlib.Core.Logic.{◌⊎◌, inl, inr, ◌↔◌, ◌≢◌}
use native.Mathlib.Omega.{arith}
use lib.Dec.{ltb, eqb}
use borrow.Author.Tests.{ltb-true, ltb-false, eqb-true, eqb-false, lt-ltb, le-ltb, eq-eqb}
use Rattle.touching.specs.Touch.{apart, row, touch}

-- what `touch` tests
pub record Touches (a b : ℕ) : Type 0 where
  pub own_inside : a < 10000
  pub other_inside : b < 10000
  pub near : (apart a b ≡ 100) ⊎ ((apart a b ≡ 1) × (row a ≡ row b))

-- the two ways to touch, of which the first keeps to the grid by itself
pub record InRow (a b : ℕ) : Type 0 where
  pub one : apart a b ≡ 1
  pub same_row : row a ≡ row b

pub record InColumn (a b : ℕ) : Type 0 where
  pub other_inside : b < 10000
  pub hundred : apart a b ≡ 100

-- what holds of b exactly where b is one of two numbers
pub record Exactly (P : Type 0) (b m n : ℕ) : Type 0 where
  pub first : b ≡ m → P
  pub second : b ≡ n → P
  pub no_other : b ≢ m → b ≢ n → P → ⊥

-- then a test for it is one for the two numbers
module _ {P : Type 0} (b m n : ℕ) (exactly : Exactly P b m n) where
  pub two_numbers : (t : Bool) → (t ≡ true → P) → (t ≡ false → P → ⊥) → (eqb b m || eqb b n) ≡ t
  two_numbers t is not = by (eqb b m) (eqb b n) t refl refl refl
    where
      by : (u v w : Bool) → eqb b m ≡ u → eqb b n ≡ v → t ≡ w → (u || v) ≡ w
      by true v true e f g = refl
      by true v false e f g = absurd (not g (exactly.first (eqb-true b m e)))
      by false true true e f g = refl
      by false true false e f g = absurd (not g (exactly.second (eqb-true b n f)))
      by false false true e f g = absurd (exactly.no_other (eqb-false b m e) (eqb-false b n f) (is g))
      by false false false e f g = refl

module _ (a b : ℕ) where
  pub outside_own : 10000 ≤ a → false ≡ touch a b
  unfolding touch
  outside_own h = rw (le-ltb a 10000 h)

  pub outside_other : 10000 ≤ b → false ≡ touch a b
  unfolding touch
  outside_other h = by (ltb a 10000)
    where
      by : (t : Bool) → false ≡ ((t && ltb b 10000) && (eqb (apart a b) 100 || (eqb (apart a b) 1 && eqb (row a) (row b))))
      by true = rw (le-ltb b 10000 h)
      by false = refl

  pub touches : (touch a b ≡ true) ↔ Touches a b
  unfolding touch
  touches = (there, back)
    where
      from : (h k n o r : Bool) → ltb a 10000 ≡ h → ltb b 10000 ≡ k → eqb (apart a b) 100 ≡ n → eqb (apart a b) 1 ≡ o → eqb (row a) (row b) ≡ r
          → ((h && k) && (n || (o && r))) ≡ true → Touches a b
      from true true true o r p q s t u e = record { own_inside = ltb-true _ _ p; other_inside = ltb-true _ _ q; near = inl (eqb-true _ _ s) }
      from true true false true true p q s t u e =
          record { own_inside = ltb-true _ _ p; other_inside = ltb-true _ _ q; near = inr (eqb-true _ _ t, eqb-true _ _ u) }
      from true true false true false p q s t u e = absurd (false≢true e)
      from true true false false r p q s t u e = absurd (false≢true e)
      from true false n o r p q s t u e = absurd (false≢true e)
      from false k n o r p q s t u e = absurd (false≢true e)

      there : touch a b ≡ true → Touches a b
      there e = from _ _ _ _ _ refl refl refl refl refl e

      back : Touches a b → touch a b ≡ true
      back t = rw (lt-ltb a 10000 t.own_inside, lt-ltb b 10000 t.other_inside) (near t.near)
        where
          near : (apart a b ≡ 100) ⊎ ((apart a b ≡ 1) × (row a ≡ row b)) → (eqb (apart a b) 100 || (eqb (apart a b) 1 && eqb (row a) (row b))) ≡ true
          near (inl e) = rw (eq-eqb (apart a b) 100 e)
          near (inr (e, r)) = rw (e, eq-eqb (row a) (row b) r)

  in_row_test : (t u : Bool) → eqb (apart a b) 1 ≡ t → eqb (row a) (row b) ≡ u → ((t && u) ≡ true → InRow a b) × ((t && u) ≡ false → InRow a b → ⊥)
  in_row_test true true e f = (λ _. record { one = eqb-true _ _ e; same_row = eqb-true _ _ f }, λ g r. false≢true (sym g))
  in_row_test true false e f = (λ g. absurd (false≢true g), λ _ r. eqb-false _ _ f r.same_row)
  in_row_test false u e f = (λ g. absurd (false≢true g), λ _ r. eqb-false _ _ e r.one)

  in_column_test : (t u : Bool) → ltb b 10000 ≡ t → eqb (apart a b) 100 ≡ u → ((t && u) ≡ true → InColumn a b) × ((t && u) ≡ false → InColumn a b → ⊥)
  in_column_test true true e f = (λ _. record { other_inside = ltb-true _ _ e; hundred = eqb-true _ _ f }, λ g r. false≢true (sym g))
  in_column_test true false e f = (λ g. absurd (false≢true g), λ _ r. eqb-false _ _ f r.hundred)
  in_column_test false u e f = (λ g. absurd (false≢true g), λ _ r. omega (arith, ltb-false b 10000 e))

  pub in_row : {m n : ℕ} → Exactly (InRow a b) b m n → (eqb b m || eqb b n) ≡ (eqb (apart a b) 1 && eqb (row a) (row b))
  in_row {m} {n} x = let t = in_row_test _ _ refl refl in two_numbers b m n x _ t.0 t.1

  pub in_column : {m n : ℕ} → Exactly (InColumn a b) b m n → (eqb b m || eqb b n) ≡ (ltb b 10000 && eqb (apart a b) 100)
  in_column {m} {n} x = let t = in_column_test _ _ refl refl in two_numbers b m n x _ t.0 t.1

  -- an own id of the grid touches in its row or in its column
  pub either_way : a < 10000 → ((eqb (apart a b) 1 && eqb (row a) (row b)) || (ltb b 10000 && eqb (apart a b) 100)) ≡ touch a b
  unfolding touch
  either_way h = rw (lt-ltb a 10000 h) (by (eqb (apart a b) 1 && eqb (row a) (row b)) (ltb b 10000) refl refl)
    where
      by : (r t : Bool) → (eqb (apart a b) 1 && eqb (row a) (row b)) ≡ r → ltb b 10000 ≡ t → (r || (t && eqb (apart a b) 100)) ≡ (t && (eqb (apart a b) 100 || r))
      by r true e f = or_comm r (eqb (apart a b) 100)
      by true false e f = let same = ((in_row_test _ _ refl refl).0 e).same_row in absurd (omega (arith, ltb-false b 10000 f))
      by false false e f = refl
