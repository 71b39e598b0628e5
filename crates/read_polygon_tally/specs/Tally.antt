-- A cell's polygons as they are decided on, 37 and 38, and how many words they make. Definitions only.
use Rattle.std.specs.Prelude.{ℕ, ◌+◌, ◌*◌, cond, ◌&&◌, List, [], ◌∷◌, leb}
use Rattle.strip.specs.Outcome.{Paper, values, refusal}
use Rattle.read_grammar.specs.Polygons.{count_of, start_of, run_of}
use Rattle.read_polygon_words.specs.Words.{link_count, all_below}
use Rattle.read_list_set.specs.declared.Limits.{Limits}

-- the words of a polygon: four, its links, three to a vertex and six to an edge
unfoldable pub size_of : ℕ → List ℕ → ℕ
size_of links b = 4 + link_count links b + 9 * count_of b

-- polygon p: its run lies inside indices and edges, or 37; its indices are below the vertex count, or 38; else its words
unfoldable pub tally_of : Limits → List (List ℕ) → ℕ → List ℕ → Paper ℕ
tally_of l indices p b =
    cond (leb (start_of b + count_of b) l.indices && leb (start_of b + count_of b) l.edges)
    (cond (all_below l.vertices (run_of b indices)) (values (size_of l.links b)) (refusal 38 p))
    (refusal 37 p)

-- the first refusal stays, and words add up
abbrev pub words_added : Paper ℕ → Paper ℕ → Paper ℕ
words_added (refusal number place) t = refusal number place
words_added (values a) (refusal number place) = refusal number place
words_added (values a) (values b) = values (a + b)

-- polygons in order, the first of them number p
unfoldable pub tally_from : Limits → List (List ℕ) → ℕ → List (List ℕ) → Paper ℕ
tally_from l indices p [] = values 0
tally_from l indices p (b ∷ bs) = words_added (tally_of l indices p b) (tally_from l indices (p + 1) bs)
