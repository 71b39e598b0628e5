-- Quarter boxes and leaves as they are stored, one polygon or point after the other. Assumes nothing.
use Prim.Native.Nat.{ℕ, zero, suc, ◌+◌, ◌*◌, ◌-◌, ◌≤◌, ◌<◌}
use native.Mathlib.Omega.{arith}
use native.Mathlib.Nat.{add-zero, sub-zero, min-eq_left}
use mathlib.Core.Path.{◌≡◌, refl, ap, sym, ◌∙◌}
use mathlib.Core.Bool.{true, false}
use mathlib.Core.List.{List, [], ◌∷◌, map}
use lib.ListN.{length, set}
use lib.IntN.{ℤ}
use mir.Syntax.{w16}
use mir.Val.{to_z, of_z}
use Rattle.quarters.proofs.Quarters.{side_read}
use Rattle.fields.specs.Put.{put}
use Rattle.fields.proofs.Puts.{length_put, put_nil, put_cons, put_one, put_three, put_next}
use Rattle.quarters.specs.Bounding.{every_third, held, quarter_bounds}
use Rattle.quarters.specs.declared.quarter.QuarterBox.{QuarterBox}
use Rattle.quarters.specs.declared.bounds.Aabb.{Aabb}
use Rattle.strip.specs.Cell.{Vec3, NavPoly, NavPoint}
use Rattle.strip.specs.Reading.{word, items_at, vec_at, vecs_at, poly_at, polygon_of, polygon_at, point_at}
use Rattle.strip.specs.Rows.{polygons_at, after_polygons, points_at}
use Rattle.strip.specs.declared.Poly.{Poly}
use Rattle.strip.proofs.Steps.{items_turn, items_done, polygons_turn, after_polygon, next_inside}
use Rattle.write_pages.specs.Items.{floats, box_of, gather}
use Rattle.write_pages.specs.Sectors.{leaf_of}
use Rattle.write_plan.specs.Plan.{sides, box_words, boxes, leaf_words}

-- ---- a polygon's quarter box, read by axis

axis : (s : List ℕ) (k : ℕ) (f : Vec3 → ℕ) → ((at : ℕ) → f (vec_at s at) ≡ word s (at + k)) → (n at : ℕ) → every_third s (at + k) n ≡ map f (vecs_at s at n)
unfolding every_third items_at
axis s k f e zero at = refl
axis s k f e (suc n) at =
    let next : at + k + 3 ≡ at + 3 + k = omega arith in
    rw (e at, next, axis s k f e n (at + 3))

pub box_read : (s : List ℕ) (p : Poly) → p.vertex_at + 3 * p.vertices ≤ length s
    → quarter_bounds s p.vertex_at (held s p.vertex_at p.vertices) ≡ box_of (polygon_of s p)
unfolding box_of polygon_of
box_read s p h =
    let v = p.vertex_at in
    let all : held s v p.vertices ≡ p.vertices = min-eq_left (omega arith) in
    let x : every_third s v p.vertices ≡ map (λ q. q.x) (vecs_at s v p.vertices) = ap (λ (at : ℕ). every_third s at p.vertices) (sym (add-zero v)) ∙ axis s 0 (λ q. q.x) (λ at. ap (word s) (sym (add-zero at))) p.vertices v in
    rw (all, x, axis s 1 (λ q. q.y) (λ at. refl) p.vertices v, axis s 2 (λ q. q.z) (λ at. refl) p.vertices v)

-- a side that went through a machine word is itself, since it has 16 bits
sides_word : (m n m' n' : ℤ) (r : ℕ) → r ≡ sides m n → m ≡ m' → n ≡ n' → r ≡ sides m' n'
sides_word m n m' n' r e em en = e ∙ ap (λ (k : ℤ). sides k n) em ∙ ap (λ (k : ℤ). sides m' k) en

abbrev read : ℤ → ℤ
read z = to_z w16 (of_z w16 z)

module _ (q : QuarterBox) (p : NavPoly) (e : q ≡ box_of p) (w : List ℕ) (at x y z : ℕ)
    (ex : x ≡ sides (read q.x_min) (read q.x_max)) (ey : y ≡ sides (read q.y_min) (read q.y_max)) (ez : z ≡ sides (read q.z_min) (read q.z_max)) where
  pub box_stored : set (set (set w at x) (at + 1) y) (at + 2) z ≡ put at (box_words (box_of p)) w
  unfolding box_words box_of
  box_stored =
      let x' = sides_word _ _ _ _ x ex (side_read false _ _ (ap (λ (b : QuarterBox). b.x_min) e)) (side_read true _ _ (ap (λ (b : QuarterBox). b.x_max) e)) in
      let y' = sides_word _ _ _ _ y ey (side_read false _ _ (ap (λ (b : QuarterBox). b.y_min) e)) (side_read true _ _ (ap (λ (b : QuarterBox). b.y_max) e)) in
      let z' = sides_word _ _ _ _ z ez (side_read false _ _ (ap (λ (b : QuarterBox). b.z_min) e)) (side_read true _ _ (ap (λ (b : QuarterBox). b.z_max) e)) in
      rw (x', y', z') (put_three at _ _ _ w)

length_box : (q : QuarterBox) → length (box_words q) ≡ 3
unfolding box_words
length_box q = refl

-- before polygon i, at `at`: what is left, stored from here, makes the whole
pub record Boxing (s : List ℕ) (n base : ℕ) (w₀ w : List ℕ) (at i : ℕ) : Type 0 where
  pub within : i ≤ n
  pub inside : after_polygons s at (n - i) ≤ length s
  pub long : length w ≡ length w₀
  pub left : put (base + 3 * i) (boxes (polygons_at s at (n - i))) w ≡ put base (boxes (polygons_at s 14 n)) w₀

module _ (s : List ℕ) (n base : ℕ) (w₀ : List ℕ) where
  pub boxing_start : after_polygons s 14 n ≤ length s → Boxing s n base w₀ w₀ 14 0
  boxing_start h = record { within = omega arith; inside = rw (sub-zero n) h; long = refl; left = rw (sub-zero n, add-zero base) }

  module _ (w : List ℕ) (at i : ℕ) (g : Boxing s n base w₀ w at i) where
    module _ (h : i < n) (p : Poly) (e : p ≡ poly_at s at) where
      pub box_next : p.next ≤ length s
      box_next = next_inside s at i n (length s) h g.inside p e

      pub boxing_turn : (w' : List ℕ) → w' ≡ put (base + 3 * i) (box_words (box_of (polygon_of s p))) w → Boxing s n base w₀ w' p.next (i + 1)
      unfolding gather
      boxing_turn w' ew =
          let place : ℕ = base + 3 * i in
          let on : base + 3 * (i + 1) ≡ place + 3 = omega arith in
          record {
            within = omega arith;
            inside = omega (arith, after_polygon s at i n h p e, g.inside);
            long = rw ew (length_put place (box_words (box_of (polygon_of s p))) w) ∙ g.long;
            left = rw (on, ew) (put_next 3 place (box_words (box_of (polygon_of s p))) (boxes (polygons_at s p.next (n - (i + 1)))) w (length_box (box_of (polygon_of s p))))
                ∙ ap (λ (ps : List NavPoly). put place (boxes ps) w) (sym (polygons_turn s at i n h p e)) ∙ g.left;
          }

    pub boxing_done : n ≤ i → w ≡ put base (boxes (polygons_at s 14 n)) w₀
    unfolding gather
    boxing_done h = sym (put_nil (base + 3 * i) w) ∙ ap (λ (ps : List NavPoly). put (base + 3 * i) (boxes ps) w) (sym (items_done (polygon_at s) (λ x. (poly_at s x).next) at i n h)) ∙ g.left

-- ---- points

-- before point i
pub record Leafing (s : List ℕ) (bs : List Aabb) (first n base : ℕ) (w₀ w : List ℕ) (i : ℕ) : Type 0 where
  pub within : i ≤ n
  pub long : length w ≡ length w₀
  pub left : put (base + i) (leaf_words bs (points_at s (first + 4 * i) (n - i))) w ≡ put base (leaf_words bs (points_at s first n)) w₀

module _ (s : List ℕ) (bs : List Aabb) (first n base : ℕ) (w₀ : List ℕ) where
  pub leafing_start : Leafing s bs first n base w₀ w₀ 0
  leafing_start = record { within = omega arith; long = refl; left = rw (sub-zero n, add-zero base, add-zero first) }

  module _ (w : List ℕ) (i : ℕ) (g : Leafing s bs first n base w₀ w i) where
    pub leafing_turn : i < n → (k : ℕ) → k ≡ leaf_of bs (floats (vec_at s (first + 4 * i + 1))) → Leafing s bs first n base w₀ (set w (base + i) k) (i + 1)
    unfolding leaf_words point_at
    leafing_turn h k ek =
        let at : ℕ = first + 4 * i in
        let sum : base + (i + 1) ≡ suc (base + i) = omega arith in
        let on : first + 4 * (i + 1) ≡ at + 4 = omega arith in
        record {
          within = omega arith;
          long = rw (← put_one (base + i) k w) (length_put (base + i) (k ∷ []) w) ∙ g.long;
          left = rw (sum, on, ek) (sym (put_cons (base + i) (leaf_of bs (floats (vec_at s (at + 1)))) (leaf_words bs (points_at s (at + 4) (n - (i + 1)))) w))
              ∙ ap (λ (ts : List NavPoint). put (base + i) (leaf_words bs ts) w) (sym (items_turn (point_at s) (λ x. x + 4) at i n h)) ∙ g.left;
        }

    pub leafing_done : n ≤ i → w ≡ put base (leaf_words bs (points_at s first n)) w₀
    unfolding leaf_words
    leafing_done h = sym (put_nil (base + i) w) ∙ ap (λ (ts : List NavPoint). put (base + i) (leaf_words bs ts) w) (sym (items_done (point_at s) (λ x. x + 4) (first + 4 * i) i n h)) ∙ g.left
