-- The sides of the grid's cells: each is 150 * c - 6000 exactly, since no step rounds, a cell ends where the next one begins, bit by bit, and the cell
-- at a low side is that side's. One test over the hundred coordinates. So no two coordinates have one low side.
use Rattle.std.proofs.Common.{◌≡◌, ℕ, zero, suc, ◌+◌, ◌*◌, ◌<◌, ◌≤◌, Bool, true, false, ◌&&◌, T, eqb, sym, refl, ap, ◌∙◌, subst, ⊎_elim, eq-or-lt_of_le, arith, eqb-true}
use native.Mathlib.Nat.{eq_of_mul-eq-mul_right}
use lib.Ieee.{Float, nan, inf, fin, binary32, up, down, add, sub, mul, div, of_int, fits, of_bits, to_bits}
use lib.Ieee.Fits.{down_pos, add-fits}
use lib.Ieee.Bits.{of_bits-to_bits}
use Rattle.strip.proofs.Judged.{both}
use Rattle.cell_grid.specs.Grid.{in_grid, coordinate, low_side, high_side}
use Rattle.cell_grid.specs.Sides.{IsSide, Sides}

is_side : Float → ℕ → Bool
is_side nan c = false
is_side (inf s) c = false
is_side (fin true m e) c = eqb (m * up e + 150 * c * down e) (6000 * down e)
is_side (fin false m e) c = eqb (m * up e + 6000 * down e) (150 * c * down e)

is_side_lem : (x : Float) (c : ℕ) → is_side x c ≡ true → IsSide x c
unfolding is_side
is_side_lem nan c h = let z : ◌≡◌ {A = ℕ} 0 1 = cc in absurd (omega arith)
is_side_lem (inf s) c h = let z : ◌≡◌ {A = ℕ} 0 1 = cc in absurd (omega arith)
is_side_lem (fin true m e) c h = eqb-true _ _ h
is_side_lem (fin false m e) c h = eqb-true _ _ h

bits : Float → ℕ
bits = to_bits binary32

test : ℕ → Bool
unfolding is_side bits
test c = is_side (low_side c) c && (is_side (high_side c) (suc c) && (eqb (coordinate (low_side c)) c && eqb (bits (high_side c)) (bits (low_side (suc c)))))

same_bits : (x y : Float) → T (fits binary32 x) → T (fits binary32 y) → bits x ≡ bits y → x ≡ y
unfolding bits
same_bits x y f g e = sym (of_bits-to_bits binary32 x f) ∙ ap (of_bits binary32) e ∙ of_bits-to_bits binary32 y g

tested : (c : ℕ) → test c ≡ true → Sides c
unfolding test low_side high_side
tested c h =
    let a = both (is_side (low_side c) c) _ h in
    let b = both (is_side (high_side c) (suc c)) _ a.1 in
    let d = both (eqb (coordinate (low_side c)) c) _ b.1 in
    record {
      low = is_side_lem (low_side c) c a.0;
      high = is_side_lem (high_side c) (suc c) b.0;
      own = eqb-true _ _ d.0;
      next = same_bits (high_side c) (low_side (suc c)) (add-fits _ _ _) (add-fits _ _ _) (eqb-true _ _ d.1);
    }

-- a test passes below a bound
passes : (ℕ → Bool) → ℕ → Bool
passes f zero = true
passes f (suc n) = f n && passes f n

passed : (f : ℕ → Bool) (n : ℕ) → passes f n ≡ true → (c : ℕ) → c < n → f c ≡ true
unfolding passes
passed f zero h c k = absurd (omega arith)
passed f (suc n) h c k =
    let b = both (f n) (passes f n) h in
    ⊎_elim (λ (e : c ≡ n). subst (λ (x : ℕ). f x ≡ true) (sym e) b.0) (λ (l : c < n). passed f n b.1 c l) (eq-or-lt_of_le (omega arith))

all_pass : passes test 100 ≡ true
unfolding passes test is_side bits low_side high_side coordinate in_grid add sub mul div of_int to_bits
all_pass = refl

pub sides : (c : ℕ) → c < 100 → Sides c
sides c h = tested c (passed test 100 all_pass c h)

-- a float is the side of one coordinate alone
one_side : (x : Float) (c d : ℕ) → IsSide x c → IsSide x d → c ≡ d
one_side nan c d h k = absurd h
one_side (inf s) c d h k = absurd h
one_side (fin true m e) c d h k = eq_of_mul-eq-mul_right (down e) (down_pos e) c d (omega arith)
one_side (fin false m e) c d h k = eq_of_mul-eq-mul_right (down e) (down_pos e) c d (omega arith)

-- of the 101 lines between cells and at the grid's ends
line : (c : ℕ) → c ≤ 100 → IsSide (low_side c) c
line zero h = (sides zero (omega arith)).low
line (suc c) h = rw (sides c (omega arith)).next at (sides c (omega arith)).high

pub low_injective : (c d : ℕ) → c ≤ 100 → d ≤ 100 → low_side c ≡ low_side d → c ≡ d
low_injective c d h k e = one_side (low_side d) c d (rw e at (line c h)) (line d k)
