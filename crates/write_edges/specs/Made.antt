-- The words in which the items of edges are made, and the corners that have an edge each. Definitions only.
use Rattle.std.specs.Prelude.{ℕ, List, [], ◌∷◌}
use Rattle.strip.specs.Cell.{NavPoly}
use Rattle.strip.specs.Reading.{head_at}
use Rattle.strip.specs.Rows.{polygons_at}
use Rattle.write_pages.specs.Items.{floats, Corner, half_of, corners_in, corners}

-- two words to a corner's edge, by the area table
unfoldable pub edge_words : List ℕ → List Corner → List ℕ
edge_words areas [] = []
edge_words areas (k ∷ ks) = half_of areas k.edge.a ∷ half_of areas k.edge.b ∷ edge_words areas ks

-- the corners of a polygon of the strip s, and of its first n polygons
abbrev pub corners_on : List ℕ → NavPoly → List Corner
corners_on s = corners_in (floats (head_at s 0).bb_min) (floats (head_at s 0).bb_size)

abbrev pub corners_at : List ℕ → ℕ → List Corner
corners_at s n = corners (floats (head_at s 0).bb_min) (floats (head_at s 0).bb_size) (polygons_at s 14 n)
