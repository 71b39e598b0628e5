-- How much a caller lends so that 2 never comes. Definitions only.
use Rattle.std.specs.Prelude.{ℕ, ◌*◌}

-- bytes of text, for a strip of so many words
abbrev pub obj_room : ℕ → ℕ
obj_room words = 14 * words
