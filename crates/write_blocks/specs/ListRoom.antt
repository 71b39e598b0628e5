-- What a list that is laid out asks for. Definitions only.
use Rattle.std.specs.Prelude.{◌≡◌, ℕ, ◌^◌, ◌<◌, ◌≤◌, List, [], ◌∷◌, length}
use Rattle.write_blocks.specs.Layout.{page_size, end_of}
use Rattle.write_blocks.specs.Lists.{part_count}

-- items of w bytes each
abbrev pub Wide : ℕ → List (List ℕ) → Type 0
Wide w [] = Unit
Wide w (b ∷ items) = (length b ≡ w) × Wide w items

-- ---- what a list's writers are asked for: an item takes at most a page, and so does the part table, and blocks of these sizes, laid out from `end`
-- on, stay below 2^28, where an address is the system section's
pub record ListRoom (end w n : ℕ) (ns : List ℕ) : Type 0 where
  pub some : 1 ≤ w
  pub page : w ≤ page_size
  pub table : part_count w n ≤ 1024
  pub below : end_of end ns < 2 ^ 28
