-- How long the numbers 1 to n are, each behind its space: a digit for each, another for each from 10 on, and so forth. Assumes nothing.
use mathlib.Core.Path.{◌≡◌, refl}
use mathlib.Core.List.{List, [], ◌∷◌}
use Prim.Native.Nat.{ℕ, zero, suc, ◌+◌, ◌-◌, ◌*◌, ◌^◌, ◌≤◌, ◌<◌, max}
use native.Mathlib.Decide.{dec_lt}
use native.Mathlib.Nat.{pow-suc, pow-le-pow_right, one-le-pow, add-zero, zero-add}
use native.Mathlib.Numerals.{add-one}
use native.Mathlib.Omega.{arith}
use lib.Dec.{lit<}
use lib.ListN.{length, length-append}
use Rattle.decimal.specs.Text.{decimal}
use Rattle.decimal.proofs.Decimal.{length_below, length_above}
use Rattle.strip.specs.Cell.{NavPoly, each}
use Rattle.strip.specs.Reading.{items_at}
use Rattle.obj_lines.specs.Lines.{spaced, consecutive, face_line}
use Rattle.obj_lines.proofs.Lengths.{spaced_length, face_length}
use Rattle.obj_text.specs.Text.{face_numbers, face_lines}
use Rattle.obj_text.specs.Counts.{vertex_count}

-- ---- in the lines of polygons

numbers_split : (m first n : ℕ) → length (each spaced (consecutive first (m + n))) ≡ length (each spaced (consecutive first m)) + length (each spaced (consecutive (first + m) n))
unfolding each items_at
numbers_split zero first n = rw (zero-add n, add-zero first) (omega arith)
numbers_split (suc m) first n =
    let next : first + suc m ≡ first + 1 + m = omega arith in
    let count : suc m + n ≡ suc (m + n) = omega arith in
    rw (next, count)
    (omega (
      arith,
      length-append (spaced first) (each spaced (consecutive (first + 1) (m + n))),
      length-append (spaced first) (each spaced (consecutive (first + 1) m)),
      numbers_split m (first + 1) n,
    ))

-- a polygon's line has two bytes beside its numbers
pub faces_length : (ps : List NavPoly) (first : ℕ) → length (face_lines first ps) ≡ length (each spaced (consecutive first (vertex_count ps))) + 2 * length ps
unfolding each items_at face_numbers vertex_count
faces_length [] first = refl
faces_length (p ∷ ps) first =
    let n = length p.vertices in
    omega (
      arith,
      length-append (face_line (consecutive first n)) (face_lines (first + n) ps),
      face_length (consecutive first n),
      numbers_split n first (vertex_count ps),
      faces_length ps (first + n),
    )

-- ---- by digits

-- the digits of n numbers from `first` on, but for d of each
pub over : (d first n : ℕ) → ℕ
over d first zero = 0
over d first (suc n) = (length (decimal first) - d) + over d (first + 1) n

pub spaced_over : (n first : ℕ) → length (each spaced (consecutive first n)) ≡ n + over 0 first n
unfolding each items_at over
spaced_over zero first = refl
spaced_over (suc n) first =
    omega (
      arith,
      length-append (spaced first) (each spaced (consecutive (first + 1) n)),
      spaced_length first,
      spaced_over n (first + 1),
    )

few_digits : (d n : ℕ) → 0 < n → n < 10 ^ d → length (decimal n) ≤ d
few_digits zero n l h = absurd (omega arith)
few_digits (suc d) n l h = length_below d n h

-- each number from 10^d on has another digit
over_turn : (d n first : ℕ) → 0 < first → over d first n ≡ (first + n - max first (10 ^ d)) + over (d + 1) first n
unfolding over
over_turn d zero first l = omega arith
over_turn d (suc n) first l = by (dec_lt first (10 ^ d)) (over_turn d n (first + 1) (omega arith))
  where
    by : Dec (first < 10 ^ d) → over d (first + 1) n ≡ (first + 1 + n - max (first + 1) (10 ^ d)) + over (d + 1) (first + 1) n
        → over d first (suc n) ≡ (first + suc n - max first (10 ^ d)) + over (d + 1) first (suc n)
    by (yes h) e = omega (arith, few_digits d first l h)
    by (no h) e = omega (arith, length_above d first (omega arith))

pub numbers_turn : (d n : ℕ) → over d 1 n ≡ (n + 1 - 10 ^ d) + over (d + 1) 1 n
numbers_turn d n = omega (arith, over_turn d n 1 (lit< tt), one-le-pow d 10 (lit< tt))

none_over : (d n first : ℕ) → 0 < first → first + n ≤ 10 ^ d → over d first n ≡ 0
unfolding over
none_over d zero first l h = refl
none_over d (suc n) first l h = omega (arith, few_digits d first l (omega arith), none_over d n (first + 1) (omega arith) (omega arith))

pub numbers_done : (d n : ℕ) → n < 10 ^ d → over d 1 n ≡ 0
numbers_done d n h = none_over d n 1 (lit< tt) (omega arith)

-- the powers of ten
pub next_ten : (d : ℕ) → 10 ^ (d + 1) ≡ 10 ^ d * 10
next_ten d = rw (add-one, pow-suc)

pub tens_most : (d : ℕ) → d < 19 → 10 ^ d * 10 ≤ 10 ^ 19
tens_most d h = omega (arith, next_ten d, pow-le-pow_right {n = 10} (lit< tt) {i = d + 1} {j = 19} (omega arith))
