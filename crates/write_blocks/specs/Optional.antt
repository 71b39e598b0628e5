-- What gets a block only where there is something: ids, points, portals and links. Empty ones get no block and address 0. Definitions only.
use Rattle.std.specs.Prelude.{ℕ, zero, suc, List, [], ◌∷◌}
use Rattle.write_blocks.specs.Layout.{place_of, address}

-- the block of these bytes
abbrev pub block_of : List ℕ → List (List ℕ)
block_of [] = []
block_of (b ∷ bs) = (b ∷ bs) ∷ []

-- its size, of so many bytes
abbrev pub size_of : ℕ → List ℕ
size_of zero = []
size_of (suc n) = suc n ∷ []

-- its address, when it is laid out behind `end`
abbrev pub address_of : (end size : ℕ) → ℕ
address_of end zero = 0
address_of end (suc n) = address (place_of end (suc n))
