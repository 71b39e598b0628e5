-- A number of three digits or more has those of its hundredth, and two more. Assumes nothing.
use mathlib.Core.Path.{◌≡◌}
use mathlib.Core.List.{◌++◌, append_assoc}
use Prim.Native.Nat.{ℕ, ◌+◌, ◌/◌, ◌%◌, ◌≤◌, ◌<◌}
use native.Mathlib.Omega.{arith}
use lib.ListN.{length, length-append}
use Rattle.decimal.specs.Text.{decimal}
use Rattle.decimal.proofs.Decimal.{one_digit, more_digits}
use Rattle.obj_digits.specs.Pairs.{pair}

pub two_digits : (n : ℕ) → 10 ≤ n → n < 100 → decimal n ≡ pair n
two_digits n l h = rw (more_digits n l, one_digit (n / 10) (omega arith))

pub by_hundreds : (n : ℕ) → 100 ≤ n → decimal n ≡ decimal (n / 100) ++ pair (n % 100)
by_hundreds n h =
    let tens : n / 10 / 10 ≡ n / 100 = omega arith in
    let second : n / 10 % 10 ≡ n % 100 / 10 = omega arith in
    let last : n % 10 ≡ n % 100 % 10 = omega arith in
    rw (more_digits n (omega arith), more_digits (n / 10) (omega arith), tens, second, last, append_assoc)

pub by_ten_thousands : (n : ℕ) → 10000 ≤ n → decimal n ≡ decimal (n / 10000) ++ (pair (n / 100 % 100) ++ pair (n % 100))
by_ten_thousands n h =
    let high : n / 100 / 100 ≡ n / 10000 = omega arith in
    rw (by_hundreds n (omega arith), by_hundreds (n / 100) (omega arith), high, append_assoc)

-- and how many they are
pub length_hundreds : (n : ℕ) → 100 ≤ n → length (decimal n) ≡ length (decimal (n / 100)) + 2
length_hundreds n h = rw (by_hundreds n h, length-append)

pub length_ten_thousands : (n : ℕ) → 10000 ≤ n → length (decimal n) ≡ length (decimal (n / 10000)) + 4
length_ten_thousands n h = rw (by_ten_thousands n h, length-append)
