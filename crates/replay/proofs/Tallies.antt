-- A tally holds further on; and where as many agree as are seen, each of them does.
use Prim.Native.Nat.{ℕ, ◌≤◌}
use native.Mathlib.Omega.{arith}
use mathlib.Core.Path.{◌≡◌, refl}
use mathlib.Core.Bool.{Bool, true, false}
use Rattle.replay.specs.Tallies.{Tallied, counting, Step, left_out, agrees, differs, Passed, at_first, more, AllAgree, no_record, beside, with_one}
use Rattle.replay.specs.declared.Tally.{Tally}

pub later : (n a b : ℕ) (t : Tally) → Tallied n a t → a ≤ b → Tallied n b t
later n a b t g h = record { few = omega (arith, g.few); part = g.part; shown = g.shown; all = g.all }

-- a record that is asked for is counted with the verdict on it
pub step : (Asked Agrees : Type 0) (s t : Tally) (at : ℕ) (b : Bool) → Asked → (b ≡ true → Agrees) → t ≡ counting s at b → Step Asked Agrees s at t
step Asked Agrees s t at true a y e = rw e (agrees a (y refl))
step Asked Agrees s t at false a y e = rw e (differs a)

module _ (Stands Asked Agrees : ℕ → Type 0) (next : ℕ → ℕ) (n : ℕ) where
  step_part : (at : ℕ) (s t : Tally) → Step (Asked at) (Agrees at) s at t → s.agreed ≤ s.seen → t.agreed ≤ t.seen
  unfolding counting
  step_part at s t (left_out f) h = h
  step_part at s t (agrees a y) h = omega arith
  step_part at s t (differs a) h = omega arith

  -- no more agree than are seen
  part : (at : ℕ) (t : Tally) → Passed Stands Asked Agrees next n at t → t.agreed ≤ t.seen
  part at t at_first = omega arith
  part at t (more at' s t' p here q) = step_part at' s t' q (part at' s p)

  all_step : (at : ℕ) (s t : Tally) → Passed Stands Asked Agrees next n at s → (s.agreed ≡ s.seen → AllAgree Stands Asked Agrees next at s.seen) → Stands at → Step (Asked at) (Agrees at) s at t → t.agreed ≡ t.seen → AllAgree Stands Asked Agrees next (next at) t.seen
  unfolding counting
  all_step at s t p all here (left_out f) e = beside at s.seen (all e) here f
  all_step at s t p all here (agrees a y) e = with_one at s.seen (all (omega arith)) here a y
  all_step at s t p all here (differs a) e = absurd (let h = part at s p in omega arith)

  -- as many agree as are seen: each of them agrees
  pub all_agree : (at : ℕ) (t : Tally) → Passed Stands Asked Agrees next n at t → t.agreed ≡ t.seen → AllAgree Stands Asked Agrees next at t.seen
  all_agree at t at_first e = no_record
  all_agree at t (more at' s t' p here q) e = all_step at' s t' p (λ g. all_agree at' s p g) here q e

-- a record more is passed, which stands where its parts r do
module _ {R : Type 0} (Stands Asked : ℕ → Type 0) (Agrees : ℕ → R → Type 0) (recordOf : ℕ → R) (next : R → ℕ) (n : ℕ) where
  pub one_record : (at : ℕ) (r : R) (s t : Tally) → Passed Stands Asked (λ (k : ℕ). Agrees k (recordOf k)) (λ (k : ℕ). next (recordOf k)) n at s → Stands at → r ≡ recordOf at → Step (Asked at) (Agrees at r) s at t
      → Passed Stands Asked (λ (k : ℕ). Agrees k (recordOf k)) (λ (k : ℕ). next (recordOf k)) n (next r) t
  one_record at r s t p here e q =
      let q' : Step (Asked at) (Agrees at (recordOf at)) s at t = rw e at q in
      rw e (more at s t p here q')
