-- What a polygon's parts are made of, where the grammar leaves it open: the link table as bytes, and how long a run of links is. Definitions
-- only.
use Rattle.std.specs.Prelude.{ℕ, ◌+◌, Bool, true, cond, ◌&&◌, List, [], ◌∷◌, leb, ltb}
use Rattle.fields.specs.Bytes.{le_at}
use Rattle.fields.specs.Rows.{field}

-- a polygon's links: the first of them, how many it names, and how many it has by a table of n
abbrev pub link_start : List ℕ → ℕ
link_start b = field 15 17 (le_at 4 b 0x2C)

abbrev pub links_named : List ℕ → ℕ
links_named b = field 12 3 (le_at 4 b 0x2C)

unfoldable pub link_count : ℕ → List ℕ → ℕ
link_count n b = cond (leb (link_start b + links_named b) n) (links_named b) 0

-- every index of a run is below n
unfoldable pub all_below : ℕ → List (List ℕ) → Bool
all_below n [] = true
all_below n (i ∷ is) = ltb (le_at 2 i 0) n && all_below n is
