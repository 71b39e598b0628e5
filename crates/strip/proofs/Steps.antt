-- Laws that the loops over a strip share: a turn of a loop over 0..n takes one item of the n - i that are left. Assumes nothing.
use Prim.Native.Nat.{ℕ, zero, suc, ◌+◌, ◌*◌, ◌-◌, ◌<◌, ◌≤◌}
use mathlib.Core.Path.{◌≡◌, refl, ap}
use mathlib.Core.Bool.{true, false}
use mathlib.Core.List.{List, [], ◌∷◌}
use lib.ListN.{length}
use native.Mathlib.Omega.{arith}
use borrow.Author.Tests.{lt-ltb, le-ltb}
use Rattle.fields.specs.Rows.{field}
use Rattle.strip.specs.Reading.{word, items_at, poly_at, polygon_of, polygon_at}
use Rattle.strip.specs.Rows.{after, polygons_at, after_polygons}
use Rattle.strip.specs.declared.Poly.{Poly}
use Rattle.strip.specs.Scan.{all_below, edges_fit, record_of}
use Rattle.std.specs.Prelude.{Err}

pub turn : (i n : ℕ) → i < n → n - i ≡ suc (n - (i + 1))
turn i n h = omega arith

pub none_left : (i n : ℕ) → n ≤ i → n - i ≡ zero
none_left i n h = omega arith

module _ (s : List ℕ) (at i n limit : ℕ) where
  pub below_turn : i < n → word s at < limit → all_below s at (n - i) limit ≡ all_below s (at + 1) (n - (i + 1)) limit
  unfolding all_below
  below_turn h t = rw (turn i n h, lt-ltb (word s at) limit t)

  pub below_not : i < n → limit ≤ word s at → all_below s at (n - i) limit ≡ false
  unfolding all_below
  below_not h t = rw (turn i n h, le-ltb (word s at) limit t)

  pub below_done : n ≤ i → all_below s at (n - i) limit ≡ true
  unfolding all_below
  below_done h = rw (none_left i n h)

module _ (s : List ℕ) (at i n : ℕ) where
  pub fit_turn : i < n → word s (at + 2) < 16777216 → word s (at + 5) < 16777216 → edges_fit s at (n - i) ≡ edges_fit s (at + 6) (n - (i + 1))
  unfolding edges_fit
  fit_turn h t u = rw (turn i n h, lt-ltb (word s (at + 2)) 16777216 t, lt-ltb (word s (at + 5)) 16777216 u)

  pub fit_not_a : i < n → 16777216 ≤ word s (at + 2) → edges_fit s at (n - i) ≡ false
  unfolding edges_fit
  fit_not_a h t = rw (turn i n h, le-ltb (word s (at + 2)) 16777216 t)

  pub fit_not_b : i < n → word s (at + 2) < 16777216 → 16777216 ≤ word s (at + 5) → edges_fit s at (n - i) ≡ false
  unfolding edges_fit
  fit_not_b h t u = rw (turn i n h, lt-ltb (word s (at + 2)) 16777216 t, le-ltb (word s (at + 5)) 16777216 u)

  pub fit_done : n ≤ i → edges_fit s at (n - i) ≡ true
  unfolding edges_fit
  fit_done h = rw (none_left i n h)

-- a kind that no record has
pub unknown : (k : ℕ) (s : List ℕ) (at rank : ℕ) → (k ≡ 0 → ⊥) → (k ≡ 1 → ⊥) → (k ≡ 2 → ⊥) → (k ≡ 3 → ⊥) → (k ≡ 4 → ⊥) → (k ≡ 5 → ⊥)
    → record_of k s at rank ≡ Err at
unfolding record_of
unknown zero s at rank a b c d e f = absurd (a refl)
unknown (suc zero) s at rank a b c d e f = absurd (b refl)
unknown (suc (suc zero)) s at rank a b c d e f = absurd (c refl)
unknown (suc (suc (suc zero))) s at rank a b c d e f = absurd (d refl)
unknown (suc (suc (suc (suc zero)))) s at rank a b c d e f = absurd (e refl)
unknown (suc (suc (suc (suc (suc zero))))) s at rank a b c d e f = absurd (f refl)
unknown (suc (suc (suc (suc (suc (suc k)))))) s at rank a b c d e f = refl

-- a turn of a loop over items, and over polygons
module _ {A : Type 0} (item : ℕ → A) (next : ℕ → ℕ) (at i n : ℕ) where
  pub items_turn : i < n → items_at item next at (n - i) ≡ item at ∷ items_at item next (next at) (n - (i + 1))
  unfolding items_at
  items_turn h = rw (turn i n h)

  pub items_done : n ≤ i → items_at item next at (n - i) ≡ []
  unfolding items_at
  items_done h = rw (none_left i n h)

-- there are as many items as are read
pub items_length : {A : Type 0} (item : ℕ → A) (next : ℕ → ℕ) (n at : ℕ) → length (items_at item next at n) ≡ n
unfolding items_at
items_length item next zero at = refl
items_length item next (suc n) at = ap suc (items_length item next n (next at))

pub after_turn : (next : ℕ → ℕ) (at i n : ℕ) → i < n → after next at (n - i) ≡ after next (next at) (n - (i + 1))
unfolding after
after_turn next at i n h = rw (turn i n h)

-- the same of polygons, by a cursor
module _ (s : List ℕ) (at i n : ℕ) (h : i < n) (p : Poly) (e : p ≡ poly_at s at) where
  pub polygons_turn : polygons_at s at (n - i) ≡ polygon_of s p ∷ polygons_at s p.next (n - (i + 1))
  polygons_turn = rw e (items_turn (polygon_at s) (λ x. (poly_at s x).next) at i n h)

  pub after_polygon : after_polygons s at (n - i) ≡ after_polygons s p.next (n - (i + 1))
  after_polygon = rw e (after_turn (λ x. (poly_at s x).next) at i n h)

-- the parts of a polygon's record follow one another, up to where it ends
pub record Parts (at : ℕ) (p : Poly) : Type 0 where
  pub first : p.at ≡ at
  pub flags_behind : at < p.flags_at
  pub flags_end : p.flags_at + 3 ≡ p.link_at
  pub links_end : p.link_at + p.links ≡ p.vertex_at
  pub vertices_end : p.vertex_at + 3 * p.vertices ≡ p.edge_at
  pub edges_end : p.edge_at + 6 * p.edges ≡ p.next

pub parts : (s : List ℕ) (at : ℕ) (p : Poly) → p ≡ poly_at s at → Parts at p
unfolding poly_at
parts s at p e = rw e (record { first = refl; flags_behind = omega arith; flags_end = refl; links_end = refl; vertices_end = refl; edges_end = refl })

-- and back: where the counts are the first word's and the parts follow one another, it is the polygon's cursor
pub poly_made : (s : List ℕ) (at links vertices edges flags link vertex edge next : ℕ)
    → links ≡ field 24 4 (word s at) → vertices ≡ field 0 12 (word s at) → edges ≡ field 12 12 (word s at)
    → flags ≡ at + 1 → link ≡ flags + 3 → vertex ≡ link + links → edge ≡ vertex + 3 * vertices → next ≡ edge + 6 * edges
    → record {
      at = at;
      links = links;
      vertices = vertices;
      edges = edges;
      flags_at = flags;
      link_at = link;
      vertex_at = vertex;
      edge_at = edge;
      next = next;
    } ≡ poly_at s at
unfolding poly_at
poly_made s at links vertices edges flags link vertex edge next a b c f l v e n = rw (n, e, v, l, f, a, b, c)

pub after_ge : (n : ℕ) (s : List ℕ) (at : ℕ) → at ≤ after_polygons s at n
unfolding after
after_ge zero s at = omega arith
after_ge (suc n) s at = omega (arith, parts s at (poly_at s at) refl, after_ge n s (poly_at s at).next)

-- the next polygon of those that are left is inside what they all are inside
pub next_inside : (s : List ℕ) (at i n top : ℕ) → i < n → after_polygons s at (n - i) ≤ top → (p : Poly) → p ≡ poly_at s at → p.next ≤ top
next_inside s at i n top h k p e = omega (arith, after_polygon s at i n h p e, after_ge (n - (i + 1)) s p.next)
