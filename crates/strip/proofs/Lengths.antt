-- How long the lists are that are read at a position: as long as their counts say.
use Prim.Native.Nat.{ℕ, ◌+◌}
use mathlib.Core.Path.{◌≡◌}
use mathlib.Core.List.{List}
use lib.ListN.{length}
use Rattle.strip.specs.Reading.{word, vec_at, poly_at, polygon_at, polygon_of}
use Rattle.strip.specs.Rows.{polygons_at}
use Rattle.strip.specs.declared.Poly.{Poly}
use Rattle.strip.proofs.Steps.{items_length}

-- the counts of the polygon at a cursor
module _ (s : List ℕ) (p : Poly) where
  pub vertex_count_lem : length (polygon_of s p).vertices ≡ p.vertices
  unfolding polygon_of
  vertex_count_lem = items_length (vec_at s) (λ x. x + 3) p.vertices p.vertex_at

  pub link_count : length (polygon_of s p).links ≡ p.links
  unfolding polygon_of
  link_count = items_length (word s) (λ x. x + 1) p.links p.link_at

pub poly_count : (s : List ℕ) (n : ℕ) → length (polygons_at s 14 n) ≡ n
poly_count s n = items_length (polygon_at s) (λ x. (poly_at s x).next) n 14
