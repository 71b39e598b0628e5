-- A check, and the fault that it comes of. Assumes nothing.
use Prim.Native.Nat.{ℕ, zero, suc}
use native.Mathlib.Omega.{arith}
use mathlib.Core.Path.{◌≡◌, refl, sym}
use Rattle.std.specs.Prelude.{Result, Ok, Err}
use Rattle.strip.specs.Reasons.{reason_number}
use Rattle.strip.specs.declared.Reason.{Reason}
use Rattle.write_pages.specs.Checks.{Verdict, fine, refused, at}
use Rattle.write_pages.proofs.Firsts.{at_none}
use Rattle.write_corner_checks.specs.Steps.{HasFault}

-- a fault is refused, whatever comes after it
pub at_refused : (k f : ℕ) (rest : Verdict) → (f ≡ 0 → ⊥) → refused f k ≡ at k f rest
unfolding at
at_refused k zero rest ne = absurd (ne refl)
at_refused k (suc n) rest ne = refl

-- ---- an answer is a value or a refusal
pub not_ok : {P A E : Type 0} {c : Result A E} {e : E} {a : A} → c ≡ Err e → c ≡ Ok a → P
not_ok e f = let z : ◌≡◌ {A = ℕ} 0 1 = cc in absurd (omega arith)

module _ {A : Type 0} (c : Result A Reason) (f : ℕ) where
  -- a value: there is no fault
  pub passes : (a : A) → c ≡ Ok a → f ≡ 0 → HasFault c f
  passes a e none = λ place rest. rw e (sym (at_none place f rest none))

  -- refused: its number is the fault
  pub refuses : (e : Reason) → c ≡ Err e → f ≡ reason_number e → (reason_number e ≡ 0 → ⊥) → HasFault c f
  refuses e er en ne = λ place rest. rw (er, en) (at_refused place (reason_number e) rest ne)

pub passed_none : {A : Type 0} (c : Result A Reason) (f : ℕ) → HasFault c f → (a : A) → c ≡ Ok a → f ≡ 0
unfolding at
passed_none c zero h a e = refl
passed_none c (suc n) h a e = let other : fine ≡ refused (suc n) 0 = rw e at (h 0 fine) in let z : ◌≡◌ {A = ℕ} 0 1 = cc in absurd (omega arith)

pub refused_some : {A : Type 0} (c : Result A Reason) (f : ℕ) → HasFault c f → (e : Reason) → c ≡ Err e → (f ≡ reason_number e) × (f ≡ 0 → ⊥)
unfolding at
refused_some c zero h e er = let other : refused (reason_number e) 0 ≡ fine = rw er at (h 0 fine) in let z : ◌≡◌ {A = ℕ} 0 1 = cc in absurd (omega arith)
refused_some c (suc m) h e er = let same : refused (reason_number e) 0 ≡ refused (suc m) 0 = rw er at (h 0 fine) in (cc, λ z. omega arith)
