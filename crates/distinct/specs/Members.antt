-- What theorems say of such lists: that a number is in one, and that each stands in it once. Definitions only.
use Rattle.std.specs.Prelude.{ℕ, ◌<◌, ◌≡◌, List, length, get_or}
use Rattle.distinct.specs.Distinct.{index_of}

-- x is in l
abbrev pub In : List ℕ → ℕ → Type 0
In l x = index_of l x < length l

-- each stands once: its index is where it stands
abbrev pub Once : List ℕ → Type 0
Once l = (i : ℕ) → i < length l → index_of l (get_or l i 0) ≡ i
