-- What theorems say of the call's answers: when it refuses, and what the marks are. Definitions only.
use Rattle.std.specs.Prelude.{ℕ, ◌+◌, ◌≤◌, ◌<◌, ◌≡◌, ◌⊎◌, List, [], ◌∷◌, length, get_or, take, drop}
use Rattle.strip.specs.Cell.{Cell}
use Rattle.strip.specs.Scan.{ok, scan}
use Rattle.strip.specs.Faults.{Refused}
use Rattle.reach_marks.specs.Step.{Reach}

-- how many ones there are among zeros and ones
unfoldable pub total : List ℕ → ℕ
total [] = 0
total (a ∷ m) = a + total m

module _ (strip : List ℕ) (start room : ℕ) where
  -- the cell of a well-formed strip
  abbrev pub OnCell : (Cell → Type 0) → Type 0
  OnCell P = (c : Cell) × (scan strip ≡ ok c) × P c

  -- 3 where the strip is badly formed; otherwise 42 where the start is no polygon, and otherwise 43 where there are fewer bytes than polygons
  abbrev pub Refusals : ℕ → ℕ → Type 0
  Refusals number place =
      Refused strip number place
      ⊎ (((number ≡ 42) × (place ≡ 0) × OnCell (λ c. length c.polys ≤ start))
      ⊎ ((number ≡ 43) × (place ≡ 0) × OnCell (λ c. (start < length c.polys) × (room < length c.polys))))

  -- a mark is 1 exactly where a chain of steps leads from the start, and otherwise 0
  abbrev pub MarkedSo : Cell → List ℕ → ℕ → Type 0
  MarkedSo c marks i = ((get_or marks i 0 ≡ 1) × Reach c start i) ⊎ ((get_or marks i 0 ≡ 0) × (Reach c start i → ⊥))

  -- so is each polygon's, the bytes behind the polygons are as they were, and the count is that of the ones
  pub record Marks (before after : List ℕ) (count : ℕ) (c : Cell) : Type 0 where
    pub some : start < length c.polys
    pub room_enough : length c.polys ≤ room
    pub each : (i : ℕ) → i < length c.polys → MarkedSo c after i
    pub behind : drop (length c.polys) after ≡ drop (length c.polys) before
    pub counted : count ≡ total (take (length c.polys) after)
