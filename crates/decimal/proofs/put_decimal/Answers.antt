-- `decimal::put_decimal` meets its contract. The loop's invariant: while places are left they are those of the digits of what is left, and storing
use mathlib.Core.Path.{◌≡◌, refl, ap, ◌∙◌}
use mathlib.Core.List.{List, [], ◌∷◌}
use Prim.Native.Nat.{ℕ, ◌+◌, ◌-◌, ◌/◌, ◌%◌, ◌≤◌, ◌<◌}
use native.Mathlib.Decide.{dec_lt}
use native.Mathlib.Omega.{arith}
use lib.ListN.{length}
use Rattle.fields.specs.Put.{put}
use Rattle.fields.proofs.Puts.{put_before}
use Rattle.decimal.specs.Text.{digit, decimal}
use Rattle.decimal.proofs.Decimal.{one_digit, more_digits, length_one, length_more, some_digit}
use Rattle.decimal.proofs.put_decimal.Goals as goal

-- the last digit is stored, at the last of i + 1 places; then those before it are to be stored, if there are any
module _ (at i n : ℕ) (xs ys : List ℕ) (e : i + 1 ≡ length (decimal n)) (stored : ys ≡ put (at + i) (digit (n % 10) ∷ []) xs) where
  more : 10 ≤ n → put at (decimal (n / 10)) ys ≡ put at (decimal n) xs
  more h =
      let place : i ≡ length (decimal (n / 10)) = omega (arith, length_more n h) in
      ap (put at (decimal (n / 10))) stored ∙ rw (place, put_before (decimal (n / 10)) (digit (n % 10) ∷ []) at xs, more_digits n h)

  only : n < 10 → ys ≡ put at (decimal n) xs
  only h =
      let place : at + i ≡ at = omega (arith, length_one n h) in
      let small : n % 10 ≡ n = omega arith in
      stored ∙ rw (place, small, one_digit n h)

  before : 0 < i → (i ≡ length (decimal (n / 10))) × (put at (decimal (n / 10)) ys ≡ put at (decimal n) xs)
  before some = elim (dec_lt n 10) [
    | yes h ↦ absurd (omega (arith, length_one n h))
    | no h ↦ let ten : 10 ≤ n = omega arith in (omega (arith, length_more n ten), more ten)
  ]

  last : i ≡ 0 → ys ≡ put at (decimal n) xs
  last none = elim (dec_lt n 10) [
    | yes h ↦ only h
    | no h ↦ let ten : 10 ≤ n = omega arith in absurd (omega (arith, length_more n ten, some_digit (n / 10)))
  ]

pub loop-i-init : goal.loop-i-init
loop-i-init c = (λ some. (c.decimal_len-count.ensures, refl), λ none. absurd (omega (arith, c.decimal_len-count.ensures, some_digit c.args.n)))

pub loop-i-preserved : goal.loop-i-preserved
loop-i-preserved c =
    let l = c.loop-i in
    let at = c.args.at in
    let here = l.invariant.0 c.loop-i-test.true in
    let place : l.i - 1 + 1 ≡ length (decimal l.rest) = omega (arith, c.loop-i-test.true, here.0) in
    let stored = c.put_digit.ensures in (
      λ some. let b = before at (l.i - 1) l.rest l.out c.put_digit.new.out place stored some in (b.0, b.1 ∙ here.1),
      λ none. last at (l.i - 1) l.rest l.out c.put_digit.new.out place stored none ∙ here.1,
    )

pub returns : goal.returns
returns c = record {
  size = c.decimal_len-count.ensures;
  stored = c.loop-i.invariant.1 (omega (arith, c.loop-i-test.false));
}
