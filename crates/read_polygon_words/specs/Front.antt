-- The words of a polygon before its vertices. Definitions only.
use Rattle.std.specs.Prelude.{ℕ, ◌/◌, List, [], ◌∷◌, map, length}
use Rattle.fields.specs.Bytes.{le_at, cut}
use Rattle.fields.specs.Rows.{pack}
use Rattle.read_grammar.specs.Polygons.{count_of, link_run}
use Rattle.read_polygon_words.specs.Words.{link_start, links_named, link_count}

-- the link table that some bytes are, two to a link
unfoldable pub links_of : List ℕ → List ℕ
links_of bytes = map (λ b. le_at 2 b 0) (cut 2 (length bytes / 2) bytes)

-- the words of a polygon before its vertices: counts with the kind, 2, flags, links
unfoldable pub front_of : List ℕ → List ℕ → List ℕ
front_of table b =
    pack ((12, count_of b) ∷ (12, count_of b) ∷ (4, link_count (length table) b) ∷ (4, 2) ∷ []) ∷ le_at 2 b 0 ∷ le_at 4 b 0x24 ∷ le_at 4 b 0x28
    ∷ link_run table (link_start b) (links_named b)
