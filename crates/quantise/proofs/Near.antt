-- How far `round` moves an `f32`: the law that the exact return of shorts is built on.
-- A value below 2 ^ b in size is moved by at most 2 ^ (b - 25), half of its last place. All is in units of the smallest value, 2 ^ -149. Assumes nothing.
use mathlib.Core.Path.{◌≡◌, sym, ap, ◌∙◌, subst}
use mathlib.Core.Logic.{inl, inr}
use mathlib.Core.Bool.{Bool, not}
use Prim.Native.Nat.compare
use Prim.Native.Nat.{ℕ, zero, suc, ◌+◌, ◌-◌, ◌*◌, ◌/◌, ◌%◌, ◌^◌, ◌≤◌, ◌<◌, compare, Ordering}
use native.Mathlib.Nat.{le_of_eq, le_trans, lt_of_lt_of_le, mul_assoc, mul_comm, mul-pos, mul-le-mul_left, mul-le-mul_right, lt_of_mul-lt-mul_right, div-add-mod', mod-lt, div-lt_iff_lt-mul, mul-div_cancel, mul-mod_left, eq-or-lt_of_le, lt_irrefl}
use native.Mathlib.Omega.{arith}
use lib.Arith.{lt_of_le-ne}
use lib.Dec.{T, is_le, compare_is_eq, leb→le, nleb→lt, eqb→eq, eqb, eqb_refl, lit<}
use lib.Pow.{pow-add, pow_pos, pow_mono, pow-lt}
use lib.Ieee.{Float, binary32, size, nearest, round}
use lib.Ieee.Digits.{size-le}
use lib.Ieee.Nearest.{closest}
use lib.Ieee.Order.{drop, kept}
use lib.Ieee.Scale.{grid}
use lib.Ieee.Fits.{round_is}
use lib.Ieee.Exact.{HasValue, units_val}

-- g is n / c to within h / 2
pub record Near (n c g h : ℕ) : Type 0 where
  pub not_above : 2 * (g * c) ≤ 2 * n + c * h
  pub not_below : 2 * n ≤ 2 * (g * c) + c * h

-- what `compare` says (`lib.Ieee.Nearest` has it too, and keeps it to itself)
abbrev Cmp : Ordering → ℕ → ℕ → Type 0
Cmp Ordering.lt a b = a < b
Cmp Ordering.eq a b = a ≡ b
Cmp Ordering.gt a b = b < a

cmp : (a b : ℕ) → Cmp (compare a b) a b
cmp a b = go (compare a b) (leb→le a b) (nleb→lt a b) (eqb→eq a b) (λ (e : a ≡ b). subst (λ (x : ℕ). T (eqb a x)) e (eqb_refl a))
  where
    go : (o : Ordering) → (T (is_le o) → a ≤ b) → (T (not (is_le o)) → b < a) → (T (compare_is_eq o) → a ≡ b) → (a ≡ b → T (compare_is_eq o)) → Cmp o a b
    go Ordering.lt h k e n = lt_of_le-ne (h tt) n
    go Ordering.eq h k e n = e tt
    go Ordering.gt h k e n = k tt

-- to the nearest multiple of u, by at most half of it
module _ (w r u : ℕ) (rest : r < u) where
  moved : (o : Ordering) → Cmp o (r * 2) u → (2 * (nearest w o * u) ≤ 2 * (w * u + r) + u) × (2 * (w * u + r) ≤ 2 * (nearest w o * u) + u)
  moved Ordering.lt h = omega arith
  moved Ordering.eq h =
      let some : w % 2 * u ≤ 1 * u = mul-le-mul_right u (omega arith) in
      omega arith
  moved Ordering.gt h = omega arith

closest_near : (n u : ℕ) → 0 < u → (2 * (closest n u * u) ≤ 2 * n + u) × (2 * n ≤ 2 * (closest n u * u) + u)
closest_near n u p =
    subst (λ (x : ℕ). (2 * (closest n u * u) ≤ 2 * x + u) × (2 * x ≤ 2 * (closest n u * u) + u)) (div-add-mod' n u)
    (moved (n / u) (n % u) u (mod-lt n p) (compare (n % u * 2) u) (cmp (n % u * 2) u))

spare : (z p b : ℕ) → z ≤ p + b → z - p ≤ b
spare z p b h = omega arith

closest_whole : (x u : ℕ) → 0 < u → closest (x * u) u ≡ x
closest_whole x u U =
    ap (λ (w : ℕ). nearest w (compare (x * u % u * 2) u)) (mul-div_cancel x U) ∙ ap (λ (r : ℕ). nearest x (compare (r * 2) u)) (mul-mod_left x u) ∙ down u U
  where
    down : (u : ℕ) → 0 < u → nearest x (compare 0 u) ≡ x
    down zero h = absurd (lt_irrefl 0 h)
    down (suc u) h = ap (nearest x) (compare.zero-suc u)

-- n / c to the format's p digits, where it is below 2 ^ (p + b)
below : (p b n c : ℕ) → 0 < c → n < 2 ^ (p + b) * c → Near n c (kept p n c * 2 ^ drop p n c) (2 ^ b)
below p b n c C h =
    let k = drop p n c in
    let few : k ≤ b = spare (size (n / c)) p b (size-le (n / c) (p + b) ((div-lt_iff_lt-mul C).1 h)) in
    let step : c * 2 ^ k ≤ c * 2 ^ b = mul-le-mul_left c (pow_mono few) in
    let same : kept p n c * (c * 2 ^ k) ≡ kept p n c * 2 ^ k * c = omega arith in
    let by = closest_near n (c * 2 ^ k) (mul-pos C (pow_pos k)) in
    record { not_above = omega arith; not_below = omega arith }

-- 2 ^ (p + b) itself is kept as it is
exactly : (p b n c : ℕ) → 0 < p → 0 < c → n ≡ 2 ^ (p + b) * c → kept p n c * 2 ^ drop p n c * c ≡ n
exactly p b n c P C e =
    let k = drop p n c in
    let whole : n / c ≡ 2 ^ (p + b) = ap (λ (x : ℕ). x / c) e ∙ mul-div_cancel (2 ^ (p + b)) C in
    let few : k ≤ b + 1 = spare (size (n / c)) p (b + 1) (size-le (n / c) (p + (b + 1)) (subst (λ (x : ℕ). x < 2 ^ (p + (b + 1))) (sym whole) (pow-lt (omega arith)))) in
    let i = p + b - k in
    let up : i + k ≡ p + b = omega arith in
    let u = c * 2 ^ k in
    let U : 0 < u = mul-pos C (pow_pos k) in
    let powers : 2 ^ (p + b) ≡ 2 ^ i * 2 ^ k = ap (λ (x : ℕ). 2 ^ x) (sym up) ∙ pow-add 2 i k in
    let is : n ≡ 2 ^ i * u = e ∙ ap (λ (x : ℕ). x * c) powers ∙ mul_assoc (2 ^ i) (2 ^ k) c ∙ ap (λ (x : ℕ). 2 ^ i * x) (mul_comm (2 ^ k) c) in
    let keeps : kept p n c ≡ 2 ^ i = ap (λ (x : ℕ). closest x u) is ∙ closest_whole (2 ^ i) u U in
    ap (λ (x : ℕ). x * 2 ^ k * c) keeps ∙ mul_assoc (2 ^ i) (2 ^ k) c ∙ ap (λ (x : ℕ). 2 ^ i * x) (mul_comm (2 ^ k) c) ∙ sym is

near : (p b n c : ℕ) → 0 < p → 0 < c → n ≤ 2 ^ (p + b) * c → Near n c (kept p n c * 2 ^ drop p n c) (2 ^ b)
near p b n c P C h = elim (eq-or-lt_of_le h) [
  | inl e ↦ (let x = exactly p b n c P C e in record { not_above = omega arith; not_below = omega arith })
  | inr l ↦ below p b n c C l
]

-- so it is far from overflow
not_past : (n c g b : ℕ) → 0 < c → b ≤ 200 → n ≤ 2 ^ (24 + b) * c → Near n c g (2 ^ b) → g < 2 ^ 277
not_past n c g b C room h at =
    let less : c * 2 ^ b ≤ c * 2 ^ (24 + b) = mul-le-mul_left c (pow_mono (omega arith)) in
    let some : 0 < 2 ^ (24 + b) * c = mul-pos (pow_pos (24 + b)) C in
    let under : g * c < 2 ^ (24 + b) * 2 * c = omega (arith, at.not_above, mul_comm c (2 ^ (24 + b))) in
    lt_of_lt_of_le (lt_of_mul-lt-mul_right c under) (le_trans (le_of_eq (sym (pow-add 2 (24 + b) 1))) (pow_mono {i = 24 + b + 1} {j = 277} (omega arith)))

-- An `f32` operation's result, where the exact one is a / c and is below 2 ^ b units: g units, and g is a / c to within half a last place. It is finite.
pub rounds_near : (s : Bool) (a c b : ℕ) → 0 < c → b ≤ 200 → a * 2 ^ 149 ≤ 2 ^ (24 + b) * c
    → (g : ℕ) × HasValue (round binary32 s a c) s g (2 ^ 149) × Near (a * 2 ^ 149) c g (2 ^ b)
rounds_near s a c b C room h =
    let at = near 24 b (a * 2 ^ 149) c (lit< tt) C h in
    let g = grid binary32 a c in (
      g,
      subst (λ (x : Float). HasValue x s g (2 ^ 149)) (sym (round_is binary32 s a c))
          (units_val binary32 s (kept 24 (a * 2 ^ 149) c) (drop 24 (a * 2 ^ 149) c) (not_past (a * 2 ^ 149) c g b C room h at)),
      at,
    )
