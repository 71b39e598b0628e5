-- `cell_bounds` refuses with 5 only, for a coordinate above 99.
use Rattle.std.proofs.Common.{◌≡◌, ℕ, ◌<◌, Bool, true, false, cond, ◌&&◌, leb, ◌⊎◌, [], refl, inl, inr, arith, leb-false}
use Rattle.strip.specs.Outcome.{Outcome, refused, done}
use Rattle.cell_grid.specs.declared.CellBounds.{CellBounds}
use Rattle.cell_grid.specs.Grid.{bounds_of, bounds_outcome}

module _ (cx cy number place : ℕ) where
  on : (a b : Bool) → leb cx 99 ≡ a → leb cy 99 ≡ b → cond {A = Outcome CellBounds} (a && b) (done (bounds_of cx cy) []) (refused 5 0) ≡ refused number place
      → (number ≡ 5) × (place ≡ 0) × ((99 < cx) ⊎ (99 < cy))
  on true true p q h = let z : ◌≡◌ {A = ℕ} 0 1 = cc in absurd (omega arith)
  on true false p q h = (cc, cc, inr (leb-false cy 99 q))
  on false b p q h = (cc, cc, inl (leb-false cx 99 p))

  pub refused_five : bounds_outcome cx cy ≡ refused number place → (number ≡ 5) × (place ≡ 0) × ((99 < cx) ⊎ (99 < cy))
  unfolding bounds_outcome
  refused_five h = on (leb cx 99) (leb cy 99) refl refl h
