-- A verdict, and the fault that it comes of. Assumes nothing.
use Prim.Native.Nat.{ℕ, zero, suc}
use native.Mathlib.Omega.{arith}
use mathlib.Core.Path.{◌≡◌, refl}
use Rattle.std.specs.Prelude.{Result, Ok}
use Rattle.strip.specs.declared.Refusal.{Refusal}
use Rattle.write_pages.specs.Checks.{fine, refused, at}
use Rattle.write_polygon_checks.specs.Steps.{VerdictHas}

-- nothing is refused: there is no fault
pub fine_none : {A : Type 0} (v : Result A Refusal) (f : ℕ) → VerdictHas v f → (a : A) → v ≡ Ok a → f ≡ 0
unfolding at
fine_none v zero h a e = refl
fine_none v (suc n) h a e = let other : fine ≡ refused (suc n) 0 = rw e at (h fine) in let z : ◌≡◌ {A = ℕ} 0 1 = cc in absurd (omega arith)
