-- What a tally says of a list's records. Definitions only.
use Rattle.std.specs.Prelude.{ℕ, ◌+◌, ◌≤◌, min, ◌≡◌, Bool, true, false}
use Rattle.replay.specs.declared.Tally.{Tally}

-- the tally of no record, of a list with n places
abbrev pub begun : ℕ → Tally
begun n = record { seen = 0; agreed = 0; first = n }

-- a tally with the record at a place, which agrees or doesn't
unfoldable pub counting : Tally → (at : ℕ) → Bool → Tally
counting t at true = record { seen = t.seen + 1; agreed = t.agreed + 1; first = t.first }
counting t at false = record { seen = t.seen + 1; agreed = t.agreed; first = min t.first at }

-- the bounds of a tally of the records before a place of n: where no difference is shown, all of them agree
pub record Tallied (n at : ℕ) (t : Tally) : Type 0 where
  pub few : t.seen ≤ at
  pub part : t.agreed ≤ t.seen
  pub shown : t.first ≤ n
  pub all : t.first ≡ n → t.agreed ≡ t.seen

-- a number that is asked for
abbrev pub Within : (low high number : ℕ) → Type 0
Within low high number = (low ≤ number) × (number ≤ high)

-- what the record at a place makes of a tally: nothing where it isn't asked for, and it is told to agree only where it does
pub data Step (Asked Agrees : Type 0) (t : Tally) (at : ℕ) : Tally → Type 0 where
  left_out : (Asked → ⊥) → Step Asked Agrees t at t
  agrees : Asked → Agrees → Step Asked Agrees t at (counting t at true)
  differs : Asked → Step Asked Agrees t at (counting t at false)

-- the tally of the records before a place. A record stands at a place or none does, is asked for or not, agrees or not, and the next one begins
-- at the place `next`.
pub data Passed (Stands Asked Agrees : ℕ → Type 0) (next : ℕ → ℕ) (n : ℕ) : ℕ → Tally → Type 0 where
  at_first : Passed Stands Asked Agrees next n 0 (begun n)
  more : (at : ℕ) (s t : Tally) → Passed Stands Asked Agrees next n at s → Stands at → Step (Asked at) (Agrees at) s at t → Passed Stands Asked Agrees next n (next at) t

-- the tally of all of a list's records: they end where none stands
pub record Counted (Stands Asked Agrees : ℕ → Type 0) (next : ℕ → ℕ) (n : ℕ) (t : Tally) : Type 0 where
  pub end : ℕ
  pub passed : Passed Stands Asked Agrees next n end t
  pub ended : Stands end → ⊥
  pub bounds : Tallied n n t

-- so many of the records before a place are asked for, and all of these agree
pub data AllAgree (Stands Asked Agrees : ℕ → Type 0) (next : ℕ → ℕ) : ℕ → ℕ → Type 0 where
  no_record : AllAgree Stands Asked Agrees next 0 0
  beside : (at k : ℕ) → AllAgree Stands Asked Agrees next at k → Stands at → (Asked at → ⊥) → AllAgree Stands Asked Agrees next (next at) k
  with_one : (at k : ℕ) → AllAgree Stands Asked Agrees next at k → Stands at → Asked at → Agrees at → AllAgree Stands Asked Agrees next (next at) (k + 1)
