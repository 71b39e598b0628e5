-- The words of a polygon's vertices and edges: how many, and that edges go behind vertices.
use Prim.Native.Nat.{ℕ, ◌+◌, ◌*◌, ◌≤◌}
use native.Mathlib.Omega.{arith}
use mathlib.Core.Path.{◌≡◌, ap, ◌∙◌}
use mathlib.Core.List.{List, map}
use lib.ListN.{length, take, drop, length-append, length-drop, length-map}
use lib.Seq.{length-take-le}
use Rattle.fields.specs.Put.{put}
use Rattle.fields.proofs.Puts.{put_next}
use Rattle.strip.specs.Cell.{Vec3, vec_words, edge_words, each}
use Rattle.read_grammar.specs.Polygons.{edge_of}
use Rattle.strip.proofs.Plain.{length_each}
use Rattle.read_polygon_words.proofs.Words.{vec_three}
use Rattle.read_edge_words.proofs.Edges.{edge_six}
use Rattle.read_polygon_sides.specs.Sides.{sides}
use Rattle.read_polygon_sides.specs.Corner.{corner}

run_length : (xs : List (List ℕ)) (start n : ℕ) → start + n ≤ length xs → length (take n (drop start xs)) ≡ n
run_length xs start n h = length-take-le n (drop start xs) (rw length-drop (omega arith))

module _ (area : ℕ → ℕ) (back : ℕ → ℕ → ℕ → Vec3) (vertices indices edges : List (List ℕ)) (start n : ℕ) (hi : start + n ≤ length indices) (he : start + n ≤ length edges) where
  pub vertex_count : length (map (corner back vertices) (take n (drop start indices))) ≡ n
  vertex_count = length-map (take n (drop start indices)) (corner back vertices) ∙ run_length indices start n hi

  pub edge_count : length (map (edge_of area) (take n (drop start edges))) ≡ n
  edge_count = length-map (take n (drop start edges)) (edge_of area) ∙ run_length edges start n he

  vertex_words : length (each vec_words (map (corner back vertices) (take n (drop start indices)))) ≡ 3 * n
  vertex_words = length_each vec_words 3 vec_three (map (corner back vertices) (take n (drop start indices))) ∙ ap (λ (k : ℕ). 3 * k) vertex_count

  edge_words_lem : length (each edge_words (map (edge_of area) (take n (drop start edges)))) ≡ 6 * n
  edge_words_lem = length_each edge_words 6 edge_six (map (edge_of area) (take n (drop start edges))) ∙ ap (λ (k : ℕ). 6 * k) edge_count

  pub length_sides : length (sides area back vertices indices edges start n) ≡ 9 * n
  unfolding sides
  length_sides = rw (length-append, vertex_words, edge_words_lem) (omega arith)

  pub sides_put : (old : List ℕ) (at : ℕ)
      → put (at + 3 * n) (each edge_words (map (edge_of area) (take n (drop start edges)))) (put at (each vec_words (map (corner back vertices) (take n (drop start indices)))) old)
      ≡ put at (sides area back vertices indices edges start n) old
  unfolding sides
  sides_put old at = put_next (3 * n) at (each vec_words (map (corner back vertices) (take n (drop start indices)))) (each edge_words (map (edge_of area) (take n (drop start edges)))) old vertex_words
