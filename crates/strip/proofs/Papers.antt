-- An answer that refuses has no values. Assumes nothing.
use Prim.Native.Nat.{ℕ}
use mathlib.Core.Path.{◌≡◌}
use native.Mathlib.Omega.{arith}
use Rattle.strip.specs.Outcome.{Paper, values, refusal}

pub no_values : {A : Type 0} {number place : ℕ} {v : A} → ◌≡◌ {A = Paper A} (refusal number place) (values v) → ⊥
no_values e = let z : ◌≡◌ {A = ℕ} 0 1 = cc in omega arith
