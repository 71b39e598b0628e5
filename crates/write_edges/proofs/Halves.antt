-- Edges as they are made in words, one corner and one polygon after the other.
use Prim.Native.Nat.{ℕ, suc, ◌+◌, ◌*◌, ◌-◌, ◌%◌, ◌≤◌, ◌<◌}
use native.Mathlib.Omega.{arith}
use native.Mathlib.Nat.{add-zero, sub-zero}
use native.Mathlib.Numerals.{add-one}
use mathlib.Core.Path.{◌≡◌, refl, ap, sym, ◌∙◌}
use mathlib.Core.Bool.{Bool, true, false, cond}
use mathlib.Core.List.{List, [], ◌∷◌, ◌++◌}
use lib.ListN.{length, length-append, set, length-set}
use lib.Dec.{ltb}
use Rattle.fields.specs.Put.{put}
use Rattle.fields.specs.Rows.{pack}
use Rattle.fields.proofs.Puts.{length_put, put_nil, put_cons, put_next}
use Rattle.math.specs.declared.vec3.Vec3.{Vec3 as Floats}
use Rattle.strip.specs.Cell.{NavPoly}
use Rattle.strip.specs.Reading.{vec_at, vecs_at, half_at, nav_edge_at, edges_at, poly_at, polygon_of, polygon_at}
use Rattle.strip.specs.Rows.{polygons_at, after_polygons}
use Rattle.strip.specs.declared.Poly.{Poly}
use Rattle.strip.proofs.Steps.{items_done, items_length, polygons_turn, after_polygon, next_inside}
use Rattle.areas.specs.EdgeHalf.{half_word}
use Rattle.write_pages.specs.Items.{Corner, no_half, no_edge, corners_of, corners_in, corners, gather, half_of}
use Rattle.write_pages.proofs.Placed.{length_corners}
use Rattle.write_corner_checks.proofs.Corners.{edge_or, corners_turn}
use Rattle.write_edges.specs.Made.{edge_words}

-- ---- halves

-- an index is cut to its bits
pub half_cut : (i p u v : ℕ) → half_word (i % 32) p u v ≡ half_word i p u v
unfolding half_word pack
half_cut i p u v = omega arith

half_a : (q : Bool) (s : List ℕ) (e : ℕ) → (cond q (nav_edge_at s e) no_edge).a ≡ cond q (half_at s e) no_half
half_a true s e = refl
half_a false s e = refl

half_b : (q : Bool) (s : List ℕ) (e : ℕ) → (cond q (nav_edge_at s e) no_edge).b ≡ cond q (half_at s (e + 3)) no_half
half_b true s e = refl
half_b false s e = refl

-- ---- the words

pub length_words : (ids : List ℕ) (ks : List Corner) → length (edge_words ids ks) ≡ 2 * length ks
unfolding edge_words
length_words ids [] = refl
length_words ids (k ∷ ks) = rw (length_words ids ks) (omega arith)

words_append : (ids : List ℕ) (ks js : List Corner) → edge_words ids (ks ++ js) ≡ edge_words ids ks ++ edge_words ids js
unfolding edge_words
words_append ids [] js = refl
words_append ids (k ∷ ks) js = rw (words_append ids ks js)

-- ---- the edges of a polygon with n vertices at v₀ and m edges at e₀. Before edge i: what is left, stored from here, makes the whole

pub record Halving (s : List ℕ) (bb-min bb-size : Floats) (n m v₀ e₀ : ℕ) (ids : List ℕ) (base : ℕ) (w₀ w : List ℕ) (i : ℕ) : Type 0 where
  pub within : i ≤ n
  pub long : length w ≡ length w₀
  pub rest : put (base + 2 * i) (edge_words ids (corners_of bb-min bb-size (vecs_at s (v₀ + 3 * i) (n - i)) (edges_at s (e₀ + 6 * i) (m - i)))) w
      ≡ put base (edge_words ids (corners_of bb-min bb-size (vecs_at s v₀ n) (edges_at s e₀ m))) w₀

module _ (s : List ℕ) (bb-min bb-size : Floats) (n m v₀ e₀ : ℕ) (ids : List ℕ) (base : ℕ) (w₀ : List ℕ) where
  pub halving : Halving s bb-min bb-size n m v₀ e₀ ids base w₀ w₀ 0
  halving = record { within = omega arith; long = refl; rest = rw (sub-zero n, sub-zero m, add-zero v₀, add-zero e₀, add-zero base) }

  module _ (w : List ℕ) (i : ℕ) (g : Halving s bb-min bb-size n m v₀ e₀ ids base w₀ w i) where
    pub halving_turn : i < n → (x y : ℕ) → x ≡ half_of ids (cond (ltb i m) (half_at s (e₀ + 6 * i)) no_half) → y ≡ half_of ids (cond (ltb i m) (half_at s (e₀ + 6 * i + 3)) no_half)
        → Halving s bb-min bb-size n m v₀ e₀ ids base w₀ (set (set w (base + 2 * i) x) (base + 2 * i + 1) y) (i + 1)
    unfolding edge_words
    halving_turn h x y ex ey =
        let e : ℕ = e₀ + 6 * i in
        let place : ℕ = base + 2 * i in
        let v : v₀ + 3 * (i + 1) ≡ v₀ + 3 * i + 3 = omega arith in
        let six : e₀ + 6 * (i + 1) ≡ e₀ + 6 * i + 6 = omega arith in
        let two : base + 2 * (i + 1) ≡ suc (suc (base + 2 * i)) = omega arith in
        let left : List ℕ = edge_words ids (corners_of bb-min bb-size (vecs_at s (v₀ + 3 * i + 3) (n - (i + 1))) (edges_at s (e + 6) (m - (i + 1)))) in
        let xa : x ≡ half_of ids (edge_or s e i m).a = ex ∙ ap (half_of ids) (sym (half_a (ltb i m) s e)) in
        let yb : y ≡ half_of ids (edge_or s e i m).b = ey ∙ ap (half_of ids) (sym (half_b (ltb i m) s e)) in
        let both : put (suc (suc place)) left (set (set w place x) (suc place) y) ≡ put place (x ∷ y ∷ left) w =
        sym (put_cons place x (y ∷ left) w ∙ put_cons (suc place) y left (set w place x)) in
        record {
          within = omega arith;
          long = (simp length-set) ∙ g.long;
          rest = (rw (v, six, two, add-one place) (both ∙ (rw (xa, yb) (ap (λ (ks : List Corner). put place (edge_words ids ks) w) (sym (corners_turn s bb-min bb-size (v₀ + 3 * i) e i n m h)))))) ∙ g.rest;
        }

    pub halved : n ≤ i → w ≡ put base (edge_words ids (corners_of bb-min bb-size (vecs_at s v₀ n) (edges_at s e₀ m))) w₀
    unfolding edge_words corners_of
    halved h = sym (rw (items_done (vec_at s) (λ x. x + 3) (v₀ + 3 * i) i n h) (put_nil (base + 2 * i) w)) ∙ g.rest

-- ---- the edges of n polygons. Before polygon i, at `at`

pub record Edging (s : List ℕ) (bb-min bb-size : Floats) (n : ℕ) (ids : List ℕ) (base : ℕ) (w₀ w : List ℕ) (at place i : ℕ) : Type 0 where
  pub within : i ≤ n
  pub inside : after_polygons s at (n - i) ≤ length s
  pub here : place + 2 * length (corners bb-min bb-size (polygons_at s at (n - i))) ≡ base + 2 * length (corners bb-min bb-size (polygons_at s 14 n))
  pub long : length w ≡ length w₀
  pub rest : put place (edge_words ids (corners bb-min bb-size (polygons_at s at (n - i)))) w ≡ put base (edge_words ids (corners bb-min bb-size (polygons_at s 14 n))) w₀

module _ (s : List ℕ) (bb-min bb-size : Floats) (n : ℕ) (ids : List ℕ) (base : ℕ) (w₀ : List ℕ) where
  pub edging : after_polygons s 14 n ≤ length s → Edging s bb-min bb-size n ids base w₀ w₀ 14 base 0
  edging h = record { within = omega arith; inside = rw (sub-zero n) h; here = rw (sub-zero n); long = refl; rest = rw (sub-zero n) }

  module _ (w : List ℕ) (at place i : ℕ) (g : Edging s bb-min bb-size n ids base w₀ w at place i) where
    module _ (h : i < n) (p : Poly) (e : p ≡ poly_at s at) where
      pub edging_next : p.next ≤ length s
      edging_next = next_inside s at i n (length s) h g.inside p e

      own : length (corners_in bb-min bb-size (polygon_of s p)) ≡ p.vertices
      unfolding polygon_of
      own = length_corners bb-min bb-size _ _ ∙ items_length (vec_at s) (λ x. x + 3) p.vertices p.vertex_at

      turned : corners bb-min bb-size (polygons_at s at (n - i)) ≡ corners_in bb-min bb-size (polygon_of s p) ++ corners bb-min bb-size (polygons_at s p.next (n - (i + 1)))
      unfolding gather
      turned = ap (corners bb-min bb-size) (polygons_turn s at i n h p e)

      left_long : length (corners bb-min bb-size (polygons_at s at (n - i))) ≡ p.vertices + length (corners bb-min bb-size (polygons_at s p.next (n - (i + 1))))
      left_long = ap length turned ∙ length-append (corners_in bb-min bb-size (polygon_of s p)) _ ∙ ap (λ (k : ℕ). k + length (corners bb-min bb-size (polygons_at s p.next (n - (i + 1))))) own

      pub edging_room : base + 2 * length (corners bb-min bb-size (polygons_at s 14 n)) ≤ length w₀ → place + 2 * p.vertices ≤ length w
      edging_room room = omega (arith, left_long, g.here, g.long)

      pub edging_turn : (w' : List ℕ) → w' ≡ put place (edge_words ids (corners_in bb-min bb-size (polygon_of s p))) w
          → Edging s bb-min bb-size n ids base w₀ w' p.next (place + 2 * p.vertices) (i + 1)
      edging_turn w' ew =
          let ks : List Corner = corners_in bb-min bb-size (polygon_of s p) in
          let js : List Corner = corners bb-min bb-size (polygons_at s p.next (n - (i + 1))) in
          let long : length (edge_words ids ks) ≡ 2 * p.vertices = length_words ids ks ∙ ap (λ (k : ℕ). 2 * k) own in
          record {
            within = omega arith;
            inside = omega (arith, after_polygon s at i n h p e, g.inside);
            here = omega (arith, left_long, g.here);
            long = ap length ew ∙ length_put place (edge_words ids ks) w ∙ g.long;
            rest = (rw ew (put_next (2 * p.vertices) place (edge_words ids ks) (edge_words ids js) w long))
                ∙ ap (λ (l : List ℕ). put place l w) (sym (words_append ids ks js))
                ∙ ap (λ (l : List Corner). put place (edge_words ids l) w) (sym turned) ∙ g.rest;
          }

    pub edged : n ≤ i → w ≡ put base (edge_words ids (corners bb-min bb-size (polygons_at s 14 n))) w₀
    unfolding gather edge_words
    edged h = sym (put_nil place w) ∙ ap (λ (ps : List NavPoly). put place (edge_words ids (corners bb-min bb-size ps)) w) (sym (items_done (polygon_at s) (λ x. (poly_at s x).next) at i n h)) ∙ g.rest
