-- Floats that stand in words as their bits. Definitions only.
use Rattle.std.specs.Prelude.{ℕ, ◌+◌, List, from_bits, slice_index}
use Rattle.std.specs.Float.{binary32}
use Rattle.math.specs.declared.vec3.Vec3.{Vec3}

-- the three floats whose bits are the words from `at` on
abbrev pub floats_at : List ℕ → ℕ → Vec3
floats_at ws at = record { x = from_bits binary32 (slice_index ws at); y = from_bits binary32 (slice_index ws (at + 1)); z = from_bits binary32 (slice_index ws (at + 2)) }
