-- Laws of counting halves by a test, each one induction over edges and one over polygons: the halves of a weaker test are those of a stronger one and
-- those between the two; and a count is above 0 exactly where some half passes.
use Prim.Native.Nat.{ℕ, ◌+◌, ◌<◌}
use mathlib.Core.Path.{◌≡◌, refl}
use mathlib.Core.Bool.{Bool, true, false, not, ◌&&◌, false≢true}
use mathlib.Core.List.{List, [], ◌∷◌}
use mathlib.Core.Logic.{◌⊎◌, inl, inr, ⊎_elim, ⊎_map, ◌↔◌}
use native.Mathlib.Nat.{eq-zero-or-pos}
use native.Mathlib.Omega.{arith}
use Rattle.strip.specs.Cell.{NavEdgeEnd, NavEdge, NavPoly}
use Rattle.strip.specs.Tests.{one_if}
use Rattle.seams.specs.Seams.{edge_count, half_count}
use Rattle.seams.specs.Before.{Any, SomeHalf}

-- of one half
pub one_split : (f g : Bool) → (g ≡ true → f ≡ true) → one_if f ≡ one_if g + one_if (f && not g)
one_split true true stronger = refl
one_split true false stronger = refl
one_split false true stronger = absurd (false≢true (stronger refl))
one_split false false stronger = refl

module _ (f g rest : NavEdgeEnd → Bool) (split : (h : NavEdgeEnd) → one_if (f h) ≡ one_if (g h) + one_if (rest h)) where
  edges_split : (es : List NavEdge) → edge_count f es ≡ edge_count g es + edge_count rest es
  unfolding edge_count
  edges_split [] = refl
  edges_split (e ∷ es) = omega (arith, split e.a, split e.b, edges_split es)

  pub halves_split : (ps : List NavPoly) → half_count f ps ≡ half_count g ps + half_count rest ps
  unfolding half_count
  halves_split [] = refl
  halves_split (p ∷ ps) = omega (arith, edges_split p.edges, halves_split ps)

-- which part of a sum is above 0
above : (m n : ℕ) → 0 < m + n → (0 < m) ⊎ (0 < n)
above m n h = ⊎_elim (λ (e : m ≡ 0). inr (omega arith)) inl (eq-zero-or-pos m)

above_one : (t : Bool) → 0 < one_if t → t ≡ true
above_one true h = refl
above_one false h = absurd (omega arith)

module _ (test : NavEdgeEnd → Bool) where
  abbrev Passes : NavEdgeEnd → Type 0
  Passes h = test h ≡ true

  abbrev OnEdge : NavEdge → Type 0
  OnEdge e = Passes e.a ⊎ Passes e.b

  some_edge : (es : List NavEdge) → 0 < edge_count test es → Any OnEdge es
  unfolding edge_count
  some_edge [] h = absurd (omega arith)
  some_edge (e ∷ es) h =
      ⊎_map (λ k. ⊎_map (above_one (test e.a)) (above_one (test e.b)) (above (one_if (test e.a)) _ k)) (some_edge es) (above (one_if (test e.a) + one_if (test e.b)) _ h)

  edge_counted : (es : List NavEdge) → Any OnEdge es → 0 < edge_count test es
  unfolding edge_count
  edge_counted [] h = absurd h
  edge_counted (e ∷ es) (inl (inl p)) = rw p (omega arith)
  edge_counted (e ∷ es) (inl (inr p)) = rw p (omega arith)
  edge_counted (e ∷ es) (inr h) = omega (arith, edge_counted es h)

  some_polygon : (ps : List NavPoly) → 0 < half_count test ps → SomeHalf Passes ps
  unfolding half_count
  some_polygon [] h = absurd (omega arith)
  some_polygon (p ∷ ps) h = ⊎_map (some_edge p.edges) (some_polygon ps) (above (edge_count test p.edges) _ h)

  polygon_counted : (ps : List NavPoly) → SomeHalf Passes ps → 0 < half_count test ps
  unfolding half_count
  polygon_counted [] h = absurd h
  polygon_counted (p ∷ ps) (inl h) = omega (arith, edge_counted p.edges h)
  polygon_counted (p ∷ ps) (inr h) = omega (arith, polygon_counted ps h)

  pub some_half : (ps : List NavPoly) → (0 < half_count test ps) ↔ SomeHalf Passes ps
  some_half ps = (some_polygon ps, polygon_counted ps)
