-- How much a caller lends so that neither 1 nor 2 comes, and how much of it the writer uses. Definitions only.
use Rattle.std.specs.Prelude.{ℕ, ◌+◌, ◌*◌, min}

-- words of work, for a strip of so many words: those that are asked for (1), and the first of them, which alone the writer may change. So what lies
-- in work behind these may be something else that the caller needs: it comes back as it was, refused or not
abbrev pub work_room : ℕ → ℕ
work_room words = 4 * words

abbrev pub work_used : ℕ → ℕ
work_used words = 2 * words

-- bytes of pages, for a strip of so many words
abbrev pub pages_room : ℕ → ℕ
pages_room words = min 6553600 (20 * words + 8192)

-- words of strip, for so many bytes of pages that were written
abbrev pub strip_room : ℕ → ℕ
strip_room bytes = min 819484 bytes
