-- Items that stand in words, all of as many words: an item's bytes are those of its words, the last word cut to what is left of the item's w bytes.
-- Definitions only.
use Rattle.std.specs.Prelude.{ℕ, zero, suc, ◌+◌, ◌-◌, ◌*◌, List, [], ◌∷◌, ◌++◌, map, take, drop, get_or}
use Rattle.fields.specs.Bytes.{le_bytes, les}

-- the item of w bytes at the front of the words: s words whole, then of the next what is left
unfoldable pub item_of : (s w : ℕ) → List ℕ → List ℕ
item_of s w ws = les 4 (take s ws) ++ le_bytes (w - 4 * s) (get_or ws s 0)

-- n of them
unfoldable pub items_in : (s w n : ℕ) → List ℕ → List (List ℕ)
items_in s w zero ws = []
items_in s w (suc n) ws = item_of s w ws ∷ items_in s w n (drop (s + 1) ws)

-- numbers as items of w bytes
unfoldable pub number_items : ℕ → List ℕ → List (List ℕ)
number_items w xs = map (le_bytes w) xs
