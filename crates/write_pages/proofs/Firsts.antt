-- The first fault of checks in order, and a fault at a place: which of them counts. Assumes nothing.
use Prim.Native.Nat.{ℕ, zero, suc}
use native.Mathlib.Omega.{arith}
use mathlib.Core.Path.{◌≡◌, refl, sym, ◌∙◌}
use mathlib.Core.Bool.{Bool, true, false, ◌||◌, true≢false}
use mathlib.Core.List.{List, [], ◌∷◌}
use Rattle.write_pages.specs.Checks.{Verdict, fault_if, first_fault, at}

-- a fault is none, which it is not
pub not_none : {P : Type 0} (k : ℕ) → suc k ≡ 0 → P
not_none k e = absurd (omega arith)

pub first_none : (m : ℕ) (rest : List ℕ) → m ≡ 0 → first_fault (m ∷ rest) ≡ first_fault rest
unfolding first_fault
first_none zero rest e = refl
first_none (suc m) rest e = absurd (omega arith)

pub first_some : (m : ℕ) (rest : List ℕ) → (m ≡ 0 → ⊥) → first_fault (m ∷ rest) ≡ m
unfolding first_fault
first_some zero rest e = absurd (e refl)
first_some (suc m) rest e = refl

pub first_nothing : 0 ≡ first_fault []
unfolding first_fault
first_nothing = refl

pub first_last : (m : ℕ) → first_fault (m ∷ []) ≡ m
unfolding first_fault
first_last zero = refl
first_last (suc m) = refl

-- a check that fails, and one that passes
pub first_fails : (bad : Bool) (n : ℕ) (rest : List ℕ) → bad ≡ true → suc n ≡ first_fault (fault_if bad (suc n) ∷ rest)
unfolding first_fault
first_fails true n rest e = refl
first_fails false n rest e = absurd (true≢false (sym e))

pub first_passes : (bad : Bool) (n m : ℕ) (rest : List ℕ) → bad ≡ false → m ≡ first_fault rest → m ≡ first_fault (fault_if bad n ∷ rest)
unfolding first_fault
first_passes true n m rest e h = absurd (true≢false e)
first_passes false n m rest e h = h

pub passed : (bad : Bool) (n : ℕ) (rest : List ℕ) → first_fault (fault_if bad (suc n) ∷ rest) ≡ 0 → bad ≡ false
unfolding first_fault
passed true n rest e = absurd (omega arith)
passed false n rest e = refl

pub or_true : (a b r : Bool) → r ≡ a → r ≡ true → true ≡ (a || b)
or_true true b r e h = refl
or_true false b r e h = absurd (true≢false (sym h ∙ e))

pub or_else : (a b r q : Bool) → r ≡ a → r ≡ false → q ≡ b → q ≡ (a || b)
or_else true b r q e h k = absurd (true≢false (sym e ∙ h))
or_else false b r q e h k = k

-- two checks are one
pub first_two : (a b : ℕ) (rest : List ℕ) → first_fault (a ∷ b ∷ rest) ≡ first_fault (first_fault (a ∷ b ∷ []) ∷ rest)
unfolding first_fault
first_two zero zero rest = refl
first_two zero (suc b) rest = refl
first_two (suc a) b rest = refl

pub at_none : (place n : ℕ) (v : Verdict) → n ≡ 0 → at place n v ≡ v
unfolding at
at_none place zero v e = refl
at_none place (suc n) v e = absurd (omega arith)

-- behind a fault nothing counts
pub at_some : (place n : ℕ) (v v' : Verdict) → (n ≡ 0 → ⊥) → at place n v ≡ at place n v'
unfolding at
at_some place zero v v' e = absurd (e refl)
at_some place (suc n) v v' e = refl
