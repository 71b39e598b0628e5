-- How many words the strip of a cell has, and that of the cell that is read again. Assumes nothing.
use Prim.Native.Nat.{ℕ, ◌+◌, ◌*◌, ◌≤◌}
use mathlib.Core.Path.{◌≡◌, refl, sym, ◌∙◌}
use mathlib.Core.List.{List, [], ◌∷◌, ◌++◌, map}
use native.Mathlib.Omega.{arith}
use lib.ListN.{length, length-append, length-map}
use Rattle.math.specs.declared.vec3.Vec3.{Vec3 as Floats}
use Rattle.strip.specs.Cell.{NavPoly, Cell, vec_words, edge_words, each, polygon_head_as, polygon_words_as, polygon_words, plain, encode}
use Rattle.strip.proofs.Plain.{length_each, length_encode}
use Rattle.read_polygon_words.proofs.Words.{vec_three}
use Rattle.read_edge_words.proofs.Edges.{edge_six}
use Rattle.write_pages.specs.Items.{gather, corners_in, corners, links_of}
use Rattle.write_pages.specs.Sectors.{point_count}
use Rattle.write_pages.specs.Preorder.{preorder}
use Rattle.write_pages.specs.Pages.{all_corners, bb_min, bb_size, links, sectors}
use Rattle.write_pages.specs.Reread.{edge_again, position_again, polygon_again, portal_again, point_again, reread}
use Rattle.write_pages.specs.Accepted.{AllChecked}
use Rattle.write_pages.proofs.Placed.{length_corners}
use Rattle.write_pages.proofs.Stored.{length_preorder}

-- ---- polygons

polygon_words_lem : (p : NavPoly) → length (polygon_words p) ≡ 4 + length p.links + 3 * length p.vertices + 6 * length p.edges
unfolding polygon_words_as
polygon_words_lem p =
    let front = polygon_head_as plain p ∷ p.flags0 ∷ p.flags1 ∷ p.flags2 ∷ p.links in
    let vs = each vec_words p.vertices in
    omega (arith, length-append (front ++ vs) (each edge_words p.edges), length-append front vs, length_each vec_words 3 vec_three p.vertices, length_each edge_words 6 edge_six p.edges)

module _ (bb-min bb-size : Floats) where
  corner_count : (p : NavPoly) → length (corners_in bb-min bb-size p) ≡ length p.vertices
  corner_count p = length_corners bb-min bb-size p.vertices p.edges

  polygons_words : (ps : List NavPoly)
      → length (each polygon_words ps) ≡ 4 * length ps + length (links_of ps) + 3 * length (corners bb-min bb-size ps) + 6 * length (gather (λ p. p.edges) ps)
  unfolding each gather
  polygons_words [] = omega arith
  polygons_words (p ∷ ps) =
      omega (
        arith,
        length-append (polygon_words p) (each polygon_words ps),
        length-append p.links (links_of ps),
        length-append (corners_in bb-min bb-size p) (corners bb-min bb-size ps),
        length-append p.edges (gather (λ (q : NavPoly). q.edges) ps),
        polygon_words_lem p,
        corner_count p,
        polygons_words ps,
      )

  -- each of the polygons that are checked has three vertices
  pub three_corners : (start : ℕ) (ps : List NavPoly) → AllChecked start ps → 3 * length ps ≤ length (corners bb-min bb-size ps)
  unfolding gather
  three_corners start [] h = omega arith
  three_corners start (p ∷ ps) h =
      omega (arith, length-append (corners_in bb-min bb-size p) (corners bb-min bb-size ps), corner_count p, h.0.least_vertices, three_corners (start + length p.vertices) ps h.1)

-- what is gathered of the polygons that are made of others
gather_made : {A B : Type 0} (f : NavPoly → List A) (g : NavPoly → List B) (make : NavPoly → NavPoly) → ((p : NavPoly) → length (f (make p)) ≡ length (g p))
    → (ps : List NavPoly) → length (gather f (map make ps)) ≡ length (gather g ps)
unfolding gather
gather_made f g make same [] = refl
gather_made f g make same (p ∷ ps) =
    omega (arith, length-append (f (make p)) (gather f (map make ps)), length-append (g p) (gather g ps), same p, gather_made f g make same ps)

-- ---- the whole

module _ (c : Cell) where
  -- edges may be missing
  pub words_least : 15 + 4 * length c.polys + length (links c) + 3 * length (all_corners c) + 11 * length c.portals + 4 * length c.points ≤ length (encode c)
  unfolding links
  words_least = omega (arith, length_encode c, polygons_words (bb_min c) (bb_size c) c.polys)

  -- and are there when the cell is read again; points that were dropped are not
  pub words_again : length (encode (reread c))
      ≡ 15 + 4 * length c.polys + length (links c) + 9 * length (all_corners c) + 11 * length c.portals + 4 * point_count (sectors c)
  unfolding reread links polygon_again
  words_again =
      let bb-min = bb_min c in
      let bb-size = bb_size c in
      let again = polygon_again bb-min bb-size in
      let ls : length (links_of (map again c.polys)) ≡ length (links_of c.polys) = gather_made (λ p. p.links) (λ p. p.links) again (λ p. refl) c.polys in
      let ks : length (corners bb-min bb-size (map again c.polys)) ≡ length (corners bb-min bb-size c.polys) =
      gather_made (corners_in bb-min bb-size) (corners_in bb-min bb-size) again
      (λ p. corner_count bb-min bb-size (again p) ∙ length-map p.vertices (position_again bb-min bb-size) ∙ sym (corner_count bb-min bb-size p)) c.polys in
      let es : length (gather (λ (p : NavPoly). p.edges) (map again c.polys)) ≡ length (corners bb-min bb-size c.polys) =
      gather_made (λ p. p.edges) (corners_in bb-min bb-size) again (λ p. length-map (corners_in bb-min bb-size p) (λ k. edge_again k.edge)) c.polys in
      omega (
        arith,
        length_encode (reread c),
        polygons_words bb-min bb-size (map again c.polys),
        length-map c.polys again,
        length-map c.portals (portal_again bb-min bb-size),
        length-map (preorder (sectors c)) (point_again bb-min bb-size),
        length_preorder (sectors c),
      )
