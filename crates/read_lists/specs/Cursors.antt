-- Where a cursor stands in a list. Definitions only.
use Rattle.std.specs.Prelude.{ℕ, ◌+◌, ◌≤◌, ◌<◌, ◌≡◌, List}
use Rattle.std.specs.Borrow.{Bor}
use Rattle.resource.specs.Places.{resolved_at}
use Rattle.read_lists.specs.declared.Cursor.{Cursor}
use Rattle.read_lists.specs.Lists.{address_at, count_at, parts, before}

-- at a part of the table, or after the last
pub record AtPart (table : List ℕ) (c : Cursor) : Type 0 where
  pub inside : c.part ≤ parts table
  pub first_is : c.first ≡ before table c.part
  pub count : c.count ≡ count_at table c.part
  pub address : c.address ≡ address_at table c.part

-- at the part that holds item i
pub record Holds (table : List ℕ) (i : ℕ) (c : Cursor) : Type 0 where
  pub stands : AtPart table c
  pub inside : c.part < parts table
  pub low : c.first ≤ i
  pub high : i < c.first + c.count

-- where byte off of the part at an address stands in the lent sections
abbrev pub run_at : Bor (List ℕ) → Bor (List ℕ) → ℕ → ℕ → ℕ × ℕ
run_at system graphics va off = ((resolved_at system graphics va).0, off + (resolved_at system graphics va).1)
