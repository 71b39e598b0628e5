-- The vertex that an index names, turned back. Definitions only.
use Rattle.std.specs.Prelude.{ℕ, List, [], get_or}
use Rattle.fields.specs.Bytes.{le_at}
use Rattle.strip.specs.Cell.{Vec3 as Position}
use Rattle.read_grammar.specs.Polygons.{vertex_of}

-- the vertex that an index names
abbrev pub corner : (ℕ → ℕ → ℕ → Position) → List (List ℕ) → List ℕ → Position
corner back vertices i = vertex_of back (get_or vertices (le_at 2 i 0) [])
