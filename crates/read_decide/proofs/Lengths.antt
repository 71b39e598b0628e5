-- How many words a cell makes, part by part. Assumes nothing.
use Prim.Native.Nat.{ℕ, ◌+◌, ◌*◌}
use native.Mathlib.Omega.{arith}
use mathlib.Core.Path.{◌≡◌, ap, ◌∙◌}
use mathlib.Core.List.{List, ◌++◌, map}
use lib.ListN.{length, length-append, length-map}
use Rattle.fields.specs.Bytes.{cut}
use Rattle.strip.specs.Cell.{head_words, portal_words, point_words, end_words, encode}
use Rattle.strip.proofs.Plain.{length_each, head_length, portal_length, point_length, encode_plain}
use Rattle.read_grammar.specs.Derives.{back_of, portal_of, point_of}
use Rattle.fields.proofs.Cuts.{cut_length}
use Rattle.read_polygons.specs.Polygons.{polygon_made}
use Rattle.read_points.specs.Write.{points_words}
use Rattle.read_decide.specs.Reading.{head, source, polygons, portal_count, portals, cell_of}
use Rattle.read_decide.specs.Deciding.{polys_words, portals_words}

module _ (S G : List ℕ) where
  pub polys_count : length (map (polygon_made (source S G)) (polygons S G)) ≡ length (polygons S G)
  polys_count = length-map (polygons S G) (polygon_made (source S G))

  pub portals_count : length (map (portal_of (back_of (head S G))) (cut 28 (portal_count S G) (portals S G))) ≡ portal_count S G
  portals_count = length-map (cut 28 (portal_count S G) (portals S G)) (portal_of (back_of (head S G))) ∙ cut_length 28 (portal_count S G) (portals S G)

  pub portals_length : length (portals_words S G) ≡ 11 * portal_count S G
  unfolding portals_words
  portals_length = length_each portal_words 11 portal_length (map (portal_of (back_of (head S G))) (cut 28 (portal_count S G) (portals S G))) ∙ ap (λ (n : ℕ). 11 * n) portals_count

  module _ (points : List (List ℕ)) where
    pub points_count : length (map (point_of (back_of (head S G))) points) ≡ length points
    points_count = length-map points (point_of (back_of (head S G)))

    pub points_length : length (points_words (back_of (head S G)) points) ≡ 4 * length points
    unfolding points_words
    points_length = length_each point_words 4 point_length (map (point_of (back_of (head S G))) points) ∙ ap (λ (n : ℕ). 4 * n) points_count

    -- the strip is its parts, one after the other
    pub encode_is : encode (cell_of S G points) ≡ head_words (head S G) ++ polys_words S G ++ portals_words S G ++ points_words (back_of (head S G)) points ++ end_words
    unfolding cell_of polys_words portals_words points_words
    encode_is = encode_plain (cell_of S G points)

    pub encode_length : length (encode (cell_of S G points)) ≡ 14 + length (polys_words S G) + 11 * portal_count S G + 4 * length points + 1
    encode_length =
        let h = head_words (head S G) in
        let p = polys_words S G in
        let q = portals_words S G in
        let t = points_words (back_of (head S G)) points in
        rw encode_is
        (omega (arith, length-append (h ++ p ++ q ++ t) end_words, length-append (h ++ p ++ q) t, length-append (h ++ p) q, length-append h p, head_length (head S G), portals_length, points_length))
