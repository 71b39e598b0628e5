-- The answer that a record tells. Definitions only.
use Rattle.std.specs.Prelude.{ℕ, cond, eqb, Result, Ok, Err}
use Rattle.strip.specs.Outcome.{Paper, refusal, values}
use Rattle.replay.specs.declared.ToldRefusal.{ToldRefusal}

-- the number 0 is an accepted call
unfoldable pub told : {A : Type 0} → A → (number place : ℕ) → Paper A
told a number place = cond (eqb number 0) (values a) (refusal number place)

-- what an answer says, whichever number it tells
abbrev pub told_paper : {A : Type 0} → Result A ToldRefusal → Paper A
told_paper (Ok a) = values a
told_paper (Err r) = refusal r.number r.place
