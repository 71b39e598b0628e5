-- What a record tells, from the tests that a program makes.
use Prim.Native.Nat.{ℕ}
use mathlib.Core.Path.{◌≡◌, ap}
use borrow.Author.Tests.{eq-eqb, ne_eqb}
use Rattle.strip.specs.Outcome.{refusal, values}
use Rattle.replay.specs.Told.{told}

pub told_values : {A : Type 0} (a b : A) (number place : ℕ) → number ≡ 0 → a ≡ b → values a ≡ told b number place
unfolding told
told_values a b number place e q = rw (eq-eqb number 0 e) (ap values q)

pub told_refusal : {A : Type 0} (a : A) (n p number place : ℕ) → (number ≡ 0 → ⊥) → n ≡ number → p ≡ place → refusal n p ≡ told a number place
unfolding told
told_refusal a n p number place h e f = rw (ne_eqb number 0 h) (cc)
