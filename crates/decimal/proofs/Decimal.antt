-- The laws of `decimal`: how it goes on, that it reads back, that it holds digits alone and no zero in front, and how long it is.
use mathlib.Core.Path.{◌≡◌, refl}
use mathlib.Core.List.{List, [], ◌∷◌, ◌++◌}
use Prim.Native.Nat.{ℕ, zero, suc, ◌+◌, ◌-◌, ◌*◌, ◌/◌, ◌%◌, ◌^◌, ◌≤◌, ◌<◌}
use native.Mathlib.Nat.{pow-suc, one-le-pow, div-lt_iff_lt-mul, le-div_iff_mul-le, not-suc-le-zero}
use native.Mathlib.Decide.{dec_lt}
use native.Mathlib.Omega.{arith}
use lib.Dec.{lit<, lit≤}
use lib.ListN.{length, length-append, get_or, get_or-append}
use borrow.Author.Tests.{lt-ltb, le-ltb}
use Rattle.decimal.specs.Text.{ascii, decimal_in, decimal, digit, value_from, value_of}

-- a number is below 10, or not
split : {P : Type 0} (n : ℕ) → (n < 10 → P) → (10 ≤ n → P) → P
split {P} n small large = by (dec_lt n 10)
  where
    by : Dec (n < 10) → P
    by (yes h) = small h
    by (no h) = large (omega arith)

-- any number of turns above n gives the same
enough : (s t n : ℕ) → n < s → n < t → decimal_in s n ≡ decimal_in t n
unfolding decimal_in
enough zero t n h k = absurd (not-suc-le-zero h)
enough (suc s) zero n h k = absurd (not-suc-le-zero k)
enough (suc s) (suc t) n h k =
    split n
    (λ l. rw (lt-ltb n 10 l))
    (λ g. rw (le-ltb n 10 g, enough s t (n / 10) (omega arith) (omega arith)))

-- a number below 10 has one digit; another one has the digits of its tenth, and one more
pub one_digit : (n : ℕ) → n < 10 → decimal n ≡ digit n ∷ []
unfolding decimal decimal_in
one_digit n h = rw (lt-ltb n 10 h)

pub more_digits : (n : ℕ) → 10 ≤ n → decimal n ≡ decimal (n / 10) ++ (digit (n % 10) ∷ [])
unfolding decimal decimal_in
more_digits n h = rw (le-ltb n 10 h, enough n (suc (n / 10)) (n / 10) (omega arith) (omega arith))

-- what holds of numbers below 10, and of a number where it holds of its tenth, holds of all
module _ (P : ℕ → Type 0) (small : (n : ℕ) → n < 10 → P n) (large : (n : ℕ) → 10 ≤ n → P (n / 10) → P n) where
  by_turns : (t n : ℕ) → n < t → P n
  by_turns zero n h = absurd (not-suc-le-zero h)
  by_turns (suc t) n h = split n (small n) (λ g. large n g (by_turns t (n / 10) (omega arith)))

  pub by_digits : (n : ℕ) → P n
  by_digits n = by_turns (suc n) n (omega arith)

-- ---- the digits read back as the number

value_behind : (v : ℕ) (ds : List ℕ) (d : ℕ) → value_from v (ds ++ (d ∷ [])) ≡ value_from v ds * 10 + (d - 48)
unfolding value_from
value_behind v [] d = refl
value_behind v (e ∷ ds) d = value_behind (v * 10 + (e - 48)) ds d

pub read_back : (n : ℕ) → value_of (decimal n) ≡ n
unfolding value_from
read_back = by_digits (λ n. value_of (decimal n) ≡ n) small large
  where
    small : (n : ℕ) → n < 10 → value_of (decimal n) ≡ n
    small n h = rw (one_digit n h) (omega arith)

    large : (n : ℕ) → 10 ≤ n → value_of (decimal (n / 10)) ≡ n / 10 → value_of (decimal n) ≡ n
    large n h e = rw (more_digits n h, value_behind 0 (decimal (n / 10)) (digit (n % 10)), e) (omega arith)

-- ---- how many there are

pub length_more : (n : ℕ) → 10 ≤ n → length (decimal n) ≡ length (decimal (n / 10)) + 1
length_more n h = rw (more_digits n h, length-append)

pub length_one : (n : ℕ) → n < 10 → length (decimal n) ≡ 1
length_one n h = rw (one_digit n h)

pub some_digit : (n : ℕ) → 0 < length (decimal n)
some_digit = by_digits (λ n. 0 < length (decimal n)) (λ n h. omega (arith, length_one n h)) (λ n h l. omega (arith, length_more n h))

pub length_below : (k n : ℕ) → n < 10 ^ suc k → length (decimal n) ≤ suc k
length_below zero n h = omega (arith, length_one n h)
length_below (suc k) n h =
    let tenth : n / 10 < 10 ^ suc k = (div-lt_iff_lt-mul (lit< tt)).1 (rw pow-suc at h) in
    split n (λ l. omega (arith, length_one n l)) (λ g. omega (arith, length_more n g, length_below k (n / 10) tenth))

pub length_above : (k n : ℕ) → 10 ^ k ≤ n → k < length (decimal n)
length_above zero n h = some_digit n
length_above (suc k) n h =
    let tenth : 10 ^ k ≤ n / 10 = (le-div_iff_mul-le (lit< tt)).1 (rw pow-suc at h) in
    omega (arith, length_more n (omega (arith, one-le-pow k 10 (lit< tt))), length_above k (n / 10) tenth)

pub length_u64 : (n : ℕ) → n < 2 ^ 64 → length (decimal n) ≤ 20
length_u64 n h = length_below 19 n (omega (arith, lit≤ {m = 2 ^ 64} {n = 10 ^ 20} tt))

-- ---- digits alone, and the first is 0 in 0 alone

abbrev Digits : List ℕ → Type 0
Digits ds = (i : ℕ) → i < length ds → (48 ≤ get_or ds i 0) × (get_or ds i 0 < 58)

digits_behind : (ds : List ℕ) (d : ℕ) → d < 10 → Digits ds → Digits (ds ++ (digit d ∷ []))
digits_behind [] d h r zero l = (omega arith, omega arith)
digits_behind [] d h r (suc i) l = absurd (omega arith)
digits_behind (e ∷ ds) d h r zero l = r zero (omega arith)
digits_behind (e ∷ ds) d h r (suc i) l = digits_behind ds d h (λ j k. r (suc j) (omega arith)) i (omega arith)

pub all_digits : (n i : ℕ) → i < length (decimal n) → (48 ≤ get_or (decimal n) i 0) × (get_or (decimal n) i 0 < 58)
all_digits = by_digits (λ n. Digits (decimal n))
    (λ n h. rw (one_digit n h) (digits_behind [] n h (λ i l. absurd (not-suc-le-zero l))))
    (λ n h r. rw (more_digits n h) (digits_behind (decimal (n / 10)) (n % 10) (omega arith) r))

pub no_zero_first : (n : ℕ) → get_or (decimal n) 0 0 ≡ digit 0 → n ≡ 0
no_zero_first = by_digits (λ n. get_or (decimal n) 0 0 ≡ digit 0 → n ≡ 0) small large
  where
    small : (n : ℕ) → n < 10 → get_or (decimal n) 0 0 ≡ digit 0 → n ≡ 0
    small n h e = let f = rw (one_digit n h) at e in omega arith

    large : (n : ℕ) → 10 ≤ n → (get_or (decimal (n / 10)) 0 0 ≡ digit 0 → n / 10 ≡ 0) → get_or (decimal n) 0 0 ≡ digit 0 → n ≡ 0
    large n h r e =
        let f = rw (more_digits n h, get_or-append (decimal (n / 10)) (digit (n % 10) ∷ []) 0 0 (some_digit (n / 10))) at e in
        absurd (omega (arith, r f))

-- ---- what it comes to

-- by the laws: computed, it would take as many turns as the number says
pub p12_area : decimal 10000 ≡ ascii "10000"
unfolding ascii
p12_area =
    rw (more_digits 10000 (lit≤ tt), more_digits 1000 (lit≤ tt), more_digits 100 (lit≤ tt), more_digits 10 (lit≤ tt), one_digit 1 (lit< tt))
