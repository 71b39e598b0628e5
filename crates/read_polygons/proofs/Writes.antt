-- Pass two: what pass one accepted is what it needs, and the words of a polygon are its front, its vertices and its edges.
use Prim.Native.Nat.{ℕ, ◌+◌, ◌*◌, ◌/◌, ◌%◌, ◌≤◌}
use native.Mathlib.Omega.{arith}
use mathlib.Core.Path.{◌≡◌, sym, ap, ◌∙◌}
use mathlib.Core.Bool.{true}
use mathlib.Core.List.{List, ◌++◌, map, append_assoc}
use lib.ListN.{length, take, drop, length-append}
use Rattle.fields.specs.Bytes.{le_at}
use Rattle.fields.specs.Put.{put}
use Rattle.fields.proofs.Puts.{put_next}
use Rattle.strip.specs.Cell.{vec_words, edge_words, polygon_head_as, polygon_words_as, polygon_words, each}
use Rattle.read_grammar.specs.Polygons.{edge_of, count_of, start_of, run_of}
use Rattle.read_polygon_words.specs.Words.{link_count, all_below}
use Rattle.read_polygon_words.specs.Front.{links_of, front_of}
use Rattle.read_polygon_words.proofs.Words as words
use Rattle.read_polygons.specs.Polygons.{Source, polygon_made}
use Rattle.read_polygon_tally.specs.Tally.{size_of}
use Rattle.read_list_set.specs.Items.{items_in}
use Rattle.read_polygon_sides.specs.Sides.{sides, Inside}
use Rattle.read_polygon_sides.specs.Corner.{corner}
use Rattle.read_list_set.proofs.Runs.{length_items}
use Rattle.read_polygon_sides.proofs.Sides.{vertex_count, edge_count, length_sides}

-- ---- the words of a polygon

module _ (s : Source) (b : List ℕ) (hi : start_of b + count_of b ≤ length s.indices) (he : start_of b + count_of b ≤ length s.edges) where
  abbrev body : List ℕ
  body = sides s.area s.back s.vertices s.indices s.edges (start_of b) (count_of b)

  words_are : polygon_words (polygon_made s b) ≡ front_of s.links b ++ body
  unfolding polygon_words_as polygon_head_as polygon_made front_of sides
  words_are =
      rw (
        vertex_count s.area s.back s.vertices s.indices s.edges (start_of b) (count_of b) hi he,
        edge_count s.area s.back s.vertices s.indices s.edges (start_of b) (count_of b) hi he,
        words.length_run s.links b,
      )
      (append_assoc (front_of s.links b) (each vec_words (map (corner s.back s.vertices) (run_of b s.indices))) (each edge_words (map (edge_of s.area) (run_of b s.edges))))

  front_length : length (front_of s.links b) ≡ 4 + link_count (length s.links) b
  unfolding front_of
  front_length = let e = words.length_run s.links b in omega (arith, e)

  pub polygon_size : length (polygon_words (polygon_made s b)) ≡ size_of (length s.links) b
  unfolding size_of
  polygon_size = rw (words_are, length-append, front_length, length_sides s.area s.back s.vertices s.indices s.edges (start_of b) (count_of b) hi he)

  pub polygon_put : {n : ℕ} → n ≡ link_count (length s.links) b → (old : List ℕ) (at : ℕ) → put (at + 4 + n) body (put at (front_of s.links b) old) ≡ put at (polygon_words (polygon_made s b)) old
  polygon_put {n} en old at =
      let e : at + 4 + n ≡ at + (4 + n) = omega arith in
      rw (words_are, e) (put_next (4 + n) at (front_of s.links b) body old (front_length ∙ rw (← en)))

-- ---- what the functions read

pub link_count_is : (links rec : List ℕ) {n : ℕ} → n ≡ link_count (length links / 2) rec → n ≡ link_count (length (links_of links)) rec
link_count_is links rec e = e ∙ ap (λ (m : ℕ). link_count m rec) (sym (words.length_links links))

pub size_of_lem : (m : ℕ) (rec : List ℕ) {n a : ℕ} → n ≡ link_count m rec → a ≡ le_at 2 rec 2 → size_of m rec ≡ 4 + n + 9 * (a / 32 % 2048)
unfolding size_of
size_of_lem m rec en ea = rw (← en, ← ea)

pub inside : (system graphics vertices indices edges : List ℕ) (start n : ℕ) → start + n ≤ length (items_in system graphics 2 indices) → start + n ≤ length (items_in system graphics 8 edges)
    → all_below (length (items_in system graphics 6 vertices)) (take n (drop start (items_in system graphics 2 indices))) ≡ true → Inside system graphics vertices indices edges start n
inside system graphics vertices indices edges start n hi he below =
    record {
      in_indices = omega (arith, hi, length_items system graphics 2 indices);
      in_edges = omega (arith, he, length_items system graphics 8 edges);
      below = sym (ap (λ (k : ℕ). all_below k (take n (drop start (items_in system graphics 2 indices)))) (length_items system graphics 6 vertices)) ∙ below;
    }
