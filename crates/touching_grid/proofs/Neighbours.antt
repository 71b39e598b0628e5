-- Areas below 10000 touch exactly where their cells share a side: both are being one step apart on the grid. Of coordinates, of areas, and of the
-- sides that `cell_bounds` answers, of which an area from 10000 on has none.
use Prim.Native.Nat.{ℕ, ◌+◌, ◌*◌, ◌/◌, ◌%◌, ◌<◌}
use mathlib.Core.Path.{◌≡◌, refl, subst}
use mathlib.Core.Bool.{Bool, true, false, cond, ◌&&◌}
use mathlib.Core.List.{[]}
use mathlib.Core.Logic.Iff
use mathlib.Core.Logic.{◌⊎◌, inl, inr, ◌↔◌}
use native.Mathlib.Nat.{eq-zero-or-pos}
use native.Mathlib.Omega.{arith}
use lib.Dec.{leb}
use borrow.Author.Tests.{leb-true}
use Rattle.strip.specs.Outcome.{Outcome, refused, done}
use Rattle.cell_grid.specs.declared.CellBounds.{CellBounds}
use Rattle.cell_grid.specs.Grid.{bounds_of, bounds_outcome}
use Rattle.touching.specs.Touch.{apart, row, touch}
use Rattle.touching.proofs.Touches.{touches}
use Rattle.touching_grid.specs.Neighbours.{ShareSide, cell_of}
use Rattle.touching_grid.proofs.Lines.{steps, share_one_step}

module _ (x y u v : ℕ) (hx : x < 100) (hy : y < 100) (hu : u < 100) (hv : v < 100) where
  abbrev a : ℕ
  a = y * 100 + x

  abbrev b : ℕ
  b = v * 100 + u

  from_near : (apart a b ≡ 100) ⊎ ((apart a b ≡ 1) × (row a ≡ row b)) → steps x y u v ≡ 1
  from_near (inl e) = omega arith
  from_near (inr e) = omega arith

  to_near : steps x y u v ≡ 1 → (apart y v ≡ 0) ⊎ (0 < apart y v) → (apart a b ≡ 100) ⊎ ((apart a b ≡ 1) × (row a ≡ row b))
  to_near h (inl e) = inr (omega arith, omega arith)
  to_near h (inr e) = inl (omega arith)

  touch_one_step : (touch a b ≡ true) ↔ (steps x y u v ≡ 1)
  touch_one_step = (
    λ e. from_near ((touches a b).0 e).near,
    λ h. (touches a b).1 (record { own_inside = omega arith; other_inside = omega arith; near = to_near h (eq-zero-or-pos (apart y v)) }),
  )

  pub cells_touch : (touch (y * 100 + x) (v * 100 + u) ≡ true) ↔ ShareSide (bounds_of x y) (bounds_of u v)
  cells_touch = Iff.trans touch_one_step (Iff.symm (share_one_step x y u v hx hy hu hv))

-- every area below 10000 is that of a cell
pub areas_touch : (a b : ℕ) → a < 10000 → b < 10000 → (touch a b ≡ true) ↔ ShareSide (cell_of a) (cell_of b)
areas_touch a b h k =
    let e : a / 100 * 100 + a % 100 ≡ a = omega arith in
    let f : b / 100 * 100 + b % 100 ≡ b = omega arith in
    let t = cells_touch (a % 100) (a / 100) (b % 100) (b / 100) (omega arith) (omega arith) (omega arith) (omega arith) in
    subst (λ (n : ℕ). (touch n b ≡ true) ↔ ShareSide (cell_of a) (cell_of b)) e (subst (λ (n : ℕ). (touch (a / 100 * 100 + a % 100) n ≡ true) ↔ ShareSide (cell_of a) (cell_of b)) f t)

-- the answer of `cell_bounds`: it accepts the cell of an area below 10000 and no other
answered : (a : ℕ) {p : CellBounds} → bounds_outcome (a % 100) (a / 100) ≡ done p [] → (a < 10000) × (cell_of a ≡ p)
unfolding bounds_outcome
answered a {p} e = on (leb (a % 100) 99) (leb (a / 100) 99) refl e
  where
    on : (s t : Bool) → leb (a / 100) 99 ≡ t → cond {A = Outcome CellBounds} (s && t) (done (cell_of a) []) (refused 5 0) ≡ done p [] → (a < 10000) × (cell_of a ≡ p)
    on true true k h = (omega (arith, leb-true (a / 100) 99 k), cc)
    on true false k h = let z : ◌≡◌ {A = ℕ} 0 1 = cc in absurd (omega arith)
    on false t k h = let z : ◌≡◌ {A = ℕ} 0 1 = cc in absurd (omega arith)

pub answers_touch : (a b : ℕ) {p q : CellBounds} → bounds_outcome (a % 100) (a / 100) ≡ done p [] → bounds_outcome (b % 100) (b / 100) ≡ done q []
    → (touch a b ≡ true) ↔ ShareSide p q
answers_touch a b e f =
    let (h, own) = answered a e in
    let (k, other) = answered b f in
    rw (own, other) at (areas_touch a b h k)
