-- Which cells share a side: those one step apart. Every side lies on the grid's lines, of which no two are one, so equal sides are equal numbers of lines.
use Prim.Native.Nat.{ℕ, suc, ◌+◌, ◌-◌, ◌≤◌, ◌<◌}
use mathlib.Core.Path.{◌≡◌, sym, ap, ◌∙◌}
use mathlib.Core.Logic.{◌⊎◌, inl, inr, ◌↔◌, ◌≢◌}
use native.Mathlib.Nat.{eq-zero-or-pos}
use native.Mathlib.Omega.{arith}
use Rattle.cell_grid.specs.declared.CellBounds.{CellBounds}
use Rattle.cell_grid.specs.Grid.{low_side, bounds_of}
use Rattle.cell_grid.proofs.Sides.{sides, low_injective}
use Rattle.touching.specs.Touch.{apart}
use Rattle.touching_grid.specs.Neighbours.{Side, west, east, south, north, Line, line_of, ShareSide}

-- the numbers of the lines between which a side of the cell (x, y) goes
record Numbers : Type 0 where
  x0 : ℕ
  y0 : ℕ
  x1 : ℕ
  y1 : ℕ

abbrev numbers_of : ℕ → ℕ → Side → Numbers
numbers_of x y west = record { x0 = x; y0 = y; x1 = x; y1 = suc y }
numbers_of x y east = record { x0 = suc x; y0 = y; x1 = suc x; y1 = suc y }
numbers_of x y south = record { x0 = x; y0 = y; x1 = suc x; y1 = y }
numbers_of x y north = record { x0 = x; y0 = suc y; x1 = suc x; y1 = suc y }

abbrev on_lines : Numbers → Line
on_lines n = record { x0 = low_side n.x0; y0 = low_side n.y0; x1 = low_side n.x1; y1 = low_side n.y1 }

-- a side goes up or to the right, along the cell
record Up (x y : ℕ) (n : Numbers) : Type 0 where
  straight : n.x1 ≡ n.x0
  from : n.y0 ≡ y
  to : n.y1 ≡ suc y
  least : x ≤ n.x0
  most : n.x0 ≤ suc x

record Right (x y : ℕ) (n : Numbers) : Type 0 where
  straight : n.y1 ≡ n.y0
  from : n.x0 ≡ x
  to : n.x1 ≡ suc x
  least : y ≤ n.y0
  most : n.y0 ≤ suc y

goes : (x y : ℕ) (s : Side) → Up x y (numbers_of x y s) ⊎ Right x y (numbers_of x y s)
goes x y west = inl (omega arith)
goes x y east = inl (omega arith)
goes x y south = inr (omega arith)
goes x y north = inr (omega arith)

module _ (x y : ℕ) (hx : x < 100) (hy : y < 100) where
  lines : (s : Side) → line_of (bounds_of x y) s ≡ on_lines (numbers_of x y s)
  lines west = rw (sides y hy).next
  lines east = rw ((sides x hx).next, (sides y hy).next)
  lines south = rw (sides x hx).next
  lines north = rw ((sides x hx).next, (sides y hy).next)

-- the numbers keep to the grid's lines
record Inside (n : Numbers) : Type 0 where
  x0 : n.x0 ≤ 100
  y0 : n.y0 ≤ 100
  x1 : n.x1 ≤ 100
  y1 : n.y1 ≤ 100

same_numbers : (m n : Numbers) → Inside m → Inside n → on_lines m ≡ on_lines n → (m.x0 ≡ n.x0) × (m.y0 ≡ n.y0) × (m.x1 ≡ n.x1) × (m.y1 ≡ n.y1)
same_numbers m n h k e = (
  low_injective m.x0 n.x0 h.x0 k.x0 (ap (λ (l : Line). l.x0) e),
  low_injective m.y0 n.y0 h.y0 k.y0 (ap (λ (l : Line). l.y0) e),
  low_injective m.x1 n.x1 h.x1 k.x1 (ap (λ (l : Line). l.x1) e),
  low_injective m.y1 n.y1 h.y1 k.y1 (ap (λ (l : Line). l.y1) e),
)

inside : (x y : ℕ) → x < 100 → y < 100 → {n : Numbers} → Up x y n ⊎ Right x y n → Inside n
inside x y hx hy (inl u) = omega arith
inside x y hx hy (inr r) = omega arith

-- how many steps from the cell (x, y) to the cell (u, v)
abbrev pub steps : ℕ → ℕ → ℕ → ℕ → ℕ
steps x y u v = apart x u + apart y v

module _ (x y u v : ℕ) (hx : x < 100) (hy : y < 100) (hu : u < 100) (hv : v < 100) where
  module _ (m n : Numbers) (e : (m.x0 ≡ n.x0) × (m.y0 ≡ n.y0) × (m.x1 ≡ n.x1) × (m.y1 ≡ n.y1)) where
    near : Up x y m ⊎ Right x y m → Up u v n ⊎ Right u v n → steps x y u v ≤ 1
    near (inl a) (inl b) = omega arith
    near (inl a) (inr b) = absurd (omega arith)
    near (inr a) (inl b) = absurd (omega arith)
    near (inr a) (inr b) = omega arith

  one_step : ShareSide (bounds_of x y) (bounds_of u v) → steps x y u v ≡ 1
  one_step s =
      let own = goes x y s.own in
      let other = goes u v s.other in
      let lined = sym (lines x y hx hy s.own) ∙ s.same ∙ lines u v hu hv s.other in
      let few = near _ _ (same_numbers _ _ (inside x y hx hy own) (inside u v hu hv other) lined) own other in
      let some : steps x y u v ≢ 0 = λ none. s.two (here (omega arith) (omega arith)) in
      omega arith
    where
      here : x ≡ u → y ≡ v → bounds_of x y ≡ bounds_of u v
      here e f = rw (e, f)

-- and back: the next cell to the east, the next one to the north, and the other way round
east_of : (x y : ℕ) → suc x < 100 → ShareSide (bounds_of x y) (bounds_of (suc x) y)
east_of x y h =
    record {
      own = east;
      other = west;
      same = rw (sides x (omega arith)).next;
      two = λ e. let k = low_injective x (suc x) (omega arith) (omega arith) (ap (λ (b : CellBounds). b.x0) e) in omega arith;
    }

north_of : (x y : ℕ) → suc y < 100 → ShareSide (bounds_of x y) (bounds_of x (suc y))
north_of x y h =
    record {
      own = north;
      other = south;
      same = rw (sides y (omega arith)).next;
      two = λ e. let k = low_injective y (suc y) (omega arith) (omega arith) (ap (λ (b : CellBounds). b.y0) e) in omega arith;
    }

turned : {b c : CellBounds} → ShareSide b c → ShareSide c b
turned s = record { own = s.other; other = s.own; same = sym s.same; two = λ e. s.two (sym e) }

module _ (x y u v : ℕ) (hx : x < 100) (hy : y < 100) (hu : u < 100) (hv : v < 100) where
  to_the_side : steps x y u v ≡ 1 → (u - x ≡ 0) ⊎ (0 < u - x) → (x - u ≡ 0) ⊎ (0 < x - u) → (v - y ≡ 0) ⊎ (0 < v - y) → ShareSide (bounds_of x y) (bounds_of u v)
  to_the_side h (inr a) b c = let e : u ≡ suc x = omega arith in let f : v ≡ y = omega arith in rw (e, f) (east_of x y (omega arith))
  to_the_side h (inl a) (inr b) c = let e : x ≡ suc u = omega arith in let f : y ≡ v = omega arith in rw (e, f) (turned (east_of u v (omega arith)))
  to_the_side h (inl a) (inl b) (inr c) = let e : v ≡ suc y = omega arith in let f : u ≡ x = omega arith in rw (e, f) (north_of x y (omega arith))
  to_the_side h (inl a) (inl b) (inl c) = let e : y ≡ suc v = omega arith in let f : x ≡ u = omega arith in rw (e, f) (turned (north_of u v (omega arith)))

  pub share_one_step : ShareSide (bounds_of x y) (bounds_of u v) ↔ (steps x y u v ≡ 1)
  share_one_step = (one_step x y u v hx hy hu hv, λ h. to_the_side h (eq-zero-or-pos (u - x)) (eq-zero-or-pos (x - u)) (eq-zero-or-pos (v - y)))
