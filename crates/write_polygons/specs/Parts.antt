-- A list's parts as blocks, whoever makes the items. Definitions only.
use Rattle.std.specs.Prelude.{ℕ, List, map}
use Rattle.fields.specs.Bytes.{cat}
use Rattle.write_blocks.specs.Lists.{per_part, part_count, chunks}

-- the blocks of n items of w bytes, one for each part
abbrev pub parts_of : (w n : ℕ) → List (List ℕ) → List (List ℕ)
parts_of w n items = map cat (chunks (part_count w n) (per_part w) items)
