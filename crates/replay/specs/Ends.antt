-- Where the parts of a record end in a list. Definitions only.
use Rattle.std.specs.Prelude.{ℕ, ◌+◌, ◌-◌, ◌*◌, ◌/◌, min}

-- where so many bytes from a place on end, of n in all
unfoldable pub record_end : (n from count : ℕ) → ℕ
record_end n from count = from + min count (n - from)

-- bytes padded to whole words
unfoldable pub padded : ℕ → ℕ
padded count = (count + 3) / 4 * 4
