-- The lines of a drawing (document 02, No. 3): a vertex by its shorts, a polygon by the numbers of its vertices. "Each line ends in a newline, with
-- single spaces": every number has one in front of it. Definitions only.
use Rattle.std.specs.Prelude.{ℕ, ◌+◌, List, [], ◌∷◌}
use Rattle.fields.specs.Bytes.{cat}
use Rattle.decimal.specs.Text.{ascii, named}
use Rattle.math.specs.declared.vec3.Vec3.{Vec3 as Floats}
use Rattle.quantise.specs.declared.short.Shorts.{Shorts}
use Rattle.quantise.specs.Short.{shorts}
use Rattle.strip.specs.Cell.{Vec3, each}
use Rattle.strip.specs.Reading.{items_at}
use Rattle.cell_record.specs.Floats.{floats}

-- a number behind its space
abbrev pub spaced : ℕ → List ℕ
spaced n = named (ascii " ") n

-- "`v X Y Z` with its three shorts in decimal"
unfoldable pub shorts_line : Shorts → List ℕ
shorts_line q = cat (ascii "v" ∷ spaced q.x ∷ spaced q.y ∷ spaced q.z ∷ ascii "\n" ∷ [])

-- of a vertex in the box from bb-min on, of size bb-size
abbrev pub vertex_line : (bb-min bb-size : Floats) → Vec3 → List ℕ
vertex_line bb-min bb-size v = shorts_line (shorts (floats v) bb-min bb-size)

-- "`f` and its vertex numbers"
unfoldable pub face_line : List ℕ → List ℕ
face_line numbers = cat (ascii "f" ∷ each spaced numbers ∷ ascii "\n" ∷ [])

-- n numbers one after the other, from `first` on
abbrev pub consecutive : (first n : ℕ) → List ℕ
consecutive first n = items_at (λ k. k) (λ k. k + 1) first n
