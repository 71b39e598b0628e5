-- What theorems say of the two calls' answers: of which cell, when they refuse, and which polygon is the lowest. Definitions only.
use Rattle.std.specs.Prelude.{ℕ, ◌≡◌, ◌⊎◌, Bool, true, false, List, ◌∷◌, ◌++◌, length}
use Rattle.strip.specs.Cell.{NavPoly, Cell}
use Rattle.strip.specs.Fits.{All}
use Rattle.strip.specs.Box.{finite_box}
use Rattle.strip.specs.Scan.{ok, scan}
use Rattle.strip.specs.Faults.{Refused}

module _ (strip : List ℕ) where
  -- the cell of a well-formed strip whose box is finite, or isn't
  abbrev pub OnCell : Bool → (Cell → Type 0) → Type 0
  OnCell box P = (c : Cell) × (scan strip ≡ ok c) × (finite_box c.head ≡ box) × P c

  -- 3 exactly where the strip is badly formed, and otherwise 10 exactly where its box isn't finite
  abbrev pub ThreeOrTen : ℕ → ℕ → Type 0
  ThreeOrTen number place = Refused strip number place ⊎ ((number ≡ 10) × (place ≡ 0) × OnCell false (λ c. Unit))

-- the polygon of number k passes a test, and none before it does
pub record Lowest (test : NavPoly → Bool) (k : ℕ) (ps : List NavPoly) : Type 0 where
  pub before : List NavPoly
  pub polygon : NavPoly
  pub following : List NavPoly
  pub all : ps ≡ before ++ (polygon ∷ following)
  pub number : length before ≡ k
  pub passes : test polygon ≡ true
  pub none_before : All (λ p. test p ≡ false) before
