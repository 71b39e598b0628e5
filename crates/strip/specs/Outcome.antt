-- What a call decides, as one value, and what it then says and leaves behind: the shape of every promise. Definitions only.
use Rattle.std.specs.Prelude.{ℕ, List, ◌++◌, length, drop, Result, Ok, Err}
use Rattle.strip.specs.declared.Refusal.{Refusal}
use Rattle.strip.specs.Reasons.{reason_number}

-- a refusal's number and place, or the answer's values and what goes into the lent output
pub data Outcome (A : Type 0) : Type 0 where
  refused : ℕ → ℕ → Outcome A
  done : A → List ℕ → Outcome A

-- what an answer says, as the papers (documents 01 and 02) have it: by number and place, or by values
pub data Paper (A : Type 0) : Type 0 where
  refusal : ℕ → ℕ → Paper A
  values : A → Paper A

abbrev pub shown : {A : Type 0} → Outcome A → Paper A
shown (refused number place) = refusal number place
shown (done a out) = values a

-- the lent output as the call returns: a refusal leaves it as it was, and what is put into it leaves its rest
abbrev pub left : {A : Type 0} → Outcome A → List ℕ → List ℕ
left (refused number place) old = old
left (done a out) old = out ++ drop (length out) old

-- what a `Refusal` says
abbrev pub refusal_of : {A : Type 0} → Refusal → Paper A
refusal_of r = refusal (reason_number r.reason) r.place

-- what a call's answer says: its values, or its refusal
abbrev pub paper : {A : Type 0} → Result A Refusal → Paper A
paper (Ok a) = values a
paper (Err r) = refusal_of r
