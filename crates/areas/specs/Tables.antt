-- The area table as the code holds it, and what its functions answer. Definitions only.
use Rattle.std.specs.Prelude.{◌≡◌, ℕ, cond, List, length, take, nat_le, Option, Some, None}
use Rattle.fields.specs.Bytes.{over}
use Rattle.strip.specs.Outcome.{Paper, refusal, values}
use Rattle.distinct.specs.Distinct.{index_of, with_new}
use Rattle.distinct.specs.Numbers.{up_to}
use Rattle.areas.specs.declared.Areas.{Areas}
use Rattle.areas.specs.declared.Ensured.{Ensured}
use Rattle.areas.specs.declared.Entry.{Entry}

-- what an answer says to a caller that has come to the polygon `place`
abbrev pub paper : (Option ℕ) → ℕ → Paper ℕ
paper (Some i) place = values i
paper None place = refusal 15 place

-- the index of an id, which is the next where it is new; or 15 at the caller's polygon, where it would be a 33rd
abbrev pub area_at : List ℕ → ℕ → ℕ → Paper ℕ
area_at ids id place = cond (nat_le (length (with_new ids id)) 32) (values (index_of ids id)) (refusal 15 place)

-- r answers for an id, with the length of the table after it
pub record Entered (ids : List ℕ) (id : ℕ) (r : Entry) : Type 0 where
  pub answer : (place : ℕ) → paper r.at place ≡ area_at ids id place
  pub len_is : r.len ≡ length (up_to 32 ids id)

-- the ids of a table: 32 at most, since the array has no more
abbrev pub area_ids : Areas → List ℕ
area_ids t = take t.len t.ids

-- the table of the ids, stored over the words: those behind them stay
abbrev pub stored : List ℕ → List ℕ → Areas
stored ids words = record { ids = over ids words; len = length ids }

-- the table after an id
abbrev pub with_area : Areas → ℕ → Areas
with_area t id = stored (up_to 32 (area_ids t) id) t.ids

-- r answers for an id, with the table after it
pub record EnsuredIn (t : Areas) (id : ℕ) (r : Ensured) : Type 0 where
  pub answer : (place : ℕ) → paper r.at place ≡ area_at (area_ids t) id place
  pub table : r.areas ≡ with_area t id
