-- What the layout promises of the pages that blocks make. Statements only: proofs/Placed.antt shows them.
use Rattle.std.specs.Prelude.{◌≡◌, ℕ, ◌+◌, ◌*◌, ◌%◌, ◌<◌, ◌≤◌, List, [], ◌∷◌, length, slice_index, slice_index_or}
use Rattle.write_blocks.specs.Layout.{page_size, pages_of}
use Rattle.write_blocks.specs.Laid.{start_at, lengths}

-- each of the sizes is at most a page
abbrev pub Small : List ℕ → Type 0
Small [] = Unit
Small (n ∷ ns) = (n ≤ page_size) × Small ns

-- where block i of the pages starts and how long it is
abbrev pub start : List (List ℕ) → ℕ → ℕ
start bs i = start_at 0 (lengths bs) i

abbrev pub block_size : List (List ℕ) → ℕ → ℕ
block_size bs i = length (slice_index_or bs i [])

pub record Placed (bs : List (List ℕ)) : Type 0 where
  -- a block starts at a multiple of 16
  pub aligned : (i : ℕ) → i < length bs → start bs i % 16 ≡ 0
  -- within one page
  pub in_page : (i : ℕ) → i < length bs → start bs i % page_size + block_size bs i ≤ page_size
  -- behind the blocks before it, and so apart from them
  pub ascending : (i j : ℕ) → i < j → j < length bs → start bs i + block_size bs i ≤ start bs j
  -- and ends within the pages
  pub inside : (i : ℕ) → i < length bs → start bs i + block_size bs i ≤ length (pages_of bs)
  -- its bytes stand there
  pub stored : (i k : ℕ) → i < length bs → k < block_size bs i → slice_index (pages_of bs) (start bs i + k) ≡ slice_index (slice_index_or bs i []) k
  -- a byte that lies in no block is zero
  pub skipped : (p : ℕ) → p < length (pages_of bs) → ((i : ℕ) → i < length bs → start bs i ≤ p → p < start bs i + block_size bs i → ⊥) → slice_index (pages_of bs) p ≡ 0
  -- and the pages stay short
  pub short : length (pages_of bs) ≤ 32768 * length bs
