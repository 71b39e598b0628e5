-- Where blocks stand in the pages, and the bytes that they make: document 01, module 7. Definitions only.
use Rattle.std.specs.Prelude.{ℕ, ◌+◌, ◌-◌, ◌*◌, ◌/◌, ◌%◌, cond, List, [], ◌∷◌, ◌++◌, length, nat_le}
use Rattle.fields.specs.Bytes.{zeros}

-- the first multiple of 16 not below the end so far
abbrev pub aligned : ℕ → ℕ
aligned end = (end + 15) / 16 * 16

abbrev pub page_size : ℕ
page_size = 16384

-- where a block of `size` bytes starts: there, or at the next page if it wouldn't fit
unfoldable pub place_of : ℕ → ℕ → ℕ
place_of end size = cond (nat_le (aligned end % page_size + size) page_size) (aligned end) ((aligned end / page_size + 1) * page_size)

-- the end behind a block
abbrev pub behind : ℕ → ℕ → ℕ
behind end size = place_of end size + size

-- the end behind blocks of these sizes
abbrev pub end_of : ℕ → List ℕ → ℕ
end_of end [] = end
end_of end (n ∷ ns) = end_of (behind end n) ns

-- the address of a position: that of the system section
abbrev pub address : ℕ → ℕ
address at = 0x5000_0000 + at

-- the bytes skipped before a block, which are zero, and the block
abbrev pub lay_block : ℕ → List ℕ → List ℕ
lay_block end b = zeros (place_of end (length b) - end) ++ b

-- the bytes that blocks make, in order, from the end so far on
abbrev pub lay_blocks : ℕ → List (List ℕ) → List ℕ
lay_blocks end [] = []
lay_blocks end (b ∷ bs) = lay_block end b ++ lay_blocks (behind end (length b)) bs

-- the pages that blocks make
abbrev pub pages_of : List (List ℕ) → List ℕ
pages_of bs = lay_blocks 0 bs
