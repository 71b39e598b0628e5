-- The areas with which every table begins, as the list of its ids. Definitions only.
use Rattle.std.specs.Prelude.{ℕ, ◌+◌, ◌-◌, ◌%◌, ◌^◌, List, [], ◌∷◌}
use Rattle.distinct.specs.Distinct.{distinct_from}
use Rattle.areas.specs.EdgeHalf.{adjacent_none}

-- n in 32 bits
abbrev pub wrap : ℕ → ℕ
wrap n = n % 2 ^ 32

-- own id a, ADJACENT-NONE, a - 100, a - 1, a + 1, a + 100, all wrapping. "The writer's six seeds do not" follow what touches (`touching`), "since game
-- files carry them" (document 02, No. 5): neither rows nor the grid's end are looked at here.
abbrev pub seeds : ℕ → List ℕ
seeds a = a ∷ adjacent_none ∷ wrap (a + (2 ^ 32 - 100)) ∷ wrap (a + (2 ^ 32 - 1)) ∷ wrap (a + 1) ∷ wrap (a + 100) ∷ []

-- equal ones once
abbrev pub seeded : ℕ → List ℕ
seeded a = distinct_from [] (seeds a)
