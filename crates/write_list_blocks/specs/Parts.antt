-- The parts of a list as the code goes over them. Definitions only.
use Rattle.std.specs.Prelude.{ℕ, List}
use Rattle.write_blocks.specs.Lists.{per_part, part_count, part_counts}
use Rattle.write_list_blocks.specs.declared.Parts.{Parts}

-- how many items each part has that is still to come
abbrev pub counts_left : Parts → List ℕ
counts_left p = part_counts p.count p.per p.items

-- the parts of n items of w bytes
abbrev pub split : (w n : ℕ) → Parts
split w n = record { count = part_count w n; per = per_part w; items = n }
