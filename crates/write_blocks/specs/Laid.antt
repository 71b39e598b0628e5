-- The layout that the writer carries, and what it means that blocks are laid out. Definitions only.
use Rattle.std.specs.Prelude.{◌≡◌, ℕ, zero, suc, ◌+◌, ◌%◌, ◌^◌, ◌<◌, List, [], ◌∷◌, length}
use Rattle.fields.specs.Put.{put}
use Rattle.write_blocks.specs.declared.Layout.{Layout}
use Rattle.write_blocks.specs.Layout.{place_of, behind, end_of, lay_blocks}

-- where block i of these sizes starts
abbrev pub start_at : ℕ → List ℕ → ℕ → ℕ
start_at end [] i = 0
start_at end (n ∷ ns) zero = place_of end n
start_at end (n ∷ ns) (suc i) = start_at (behind end n) ns i

abbrev pub lengths : List (List ℕ) → List ℕ
lengths [] = []
lengths (b ∷ bs) = length b ∷ lengths bs

-- before any block
abbrev pub empty : Layout
empty = record { at = 0; asked = 0 }

-- behind one more block of `size` bytes. What a block adds to each field is said here and nowhere else
abbrev pub allocated : Layout → ℕ → Layout
allocated l size = record { at = behind l.at size; asked = (l.asked + size) % 2 ^ 32 }

-- behind blocks of these sizes
abbrev pub reached : Layout → List ℕ → Layout
reached l [] = l
reached l (n ∷ ns) = reached (allocated l n) ns

-- the bytes that blocks of these sizes ask for
abbrev pub sum_of : List ℕ → ℕ
sum_of [] = 0
sum_of (n ∷ ns) = n + sum_of ns

-- they end below 2^28, where an address is still the system section's
pub record Within (l : Layout) (ns : List ℕ) : Type 0 where
  pub below : end_of l.at ns < 2 ^ 28

-- ys is xs with the blocks bs laid out from l on, and r is the layout behind them
pub record Laid (l : Layout) (bs : List (List ℕ)) (r : Layout) (xs ys : List ℕ) : Type 0 where
  pub ends : r ≡ reached l (lengths bs)
  pub bytes : ys ≡ put l.at (lay_blocks l.at bs) xs
