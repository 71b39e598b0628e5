-- The operations at values that are known as fractions: each is one `round` of those fractions. Assumes nothing.
use mathlib.Core.Path.{◌≡◌, refl, sym, ap, ◌∙◌, subst}
use mathlib.Core.Bool.{Bool, true, false, not, cond, ◌&&◌, beq, true≢false}
use Prim.Native.Nat.{ℕ, zero, suc, ◌+◌, ◌-◌, ◌*◌, ◌≤◌, ◌<◌}
use native.Mathlib.Nat.{mul_comm, mul-sub, mul-pos, le_of_mul-le-mul_right, mul-le-mul_right, lt_of_mul-lt-mul_right, mul-lt-mul_of_pos_right, lt_irrefl, zero-mul}
use native.Mathlib.Omega.{arith}
use lib.Dec.{ltb}
use lib.IntN.{ℤ}
use borrow.Author.Tests.{lt-ltb, le-ltb, ltb-false, ltb-true, ne_eqb}
use lib.Ieee.{Float, nan, inf, fin, Format, up, down, round, sum, add, mul, div}
use lib.Ieee.Fits.{down_pos, up_pos}
use lib.Ieee.Exact.{HasValue}
use lib.Ieee.Scale.{round_same}

-- two tests that go together
pub ltb_same : (a b A B : ℕ) → (a < b → A < B) → (b ≤ a → B ≤ A) → ltb a b ≡ ltb A B
ltb_same a b A B f g = go (ltb a b) refl
  where
    go : (t : Bool) → ltb a b ≡ t → ltb a b ≡ ltb A B
    go true e = e ∙ sym (lt-ltb A B (f (ltb-true a b e)))
    go false e = e ∙ sym (le-ltb A B (g (ltb-false a b e)))

sub_mul' : (a b c : ℕ) → (a - b) * c ≡ a * c - b * c
sub_mul' a b c = mul_comm (a - b) c ∙ mul-sub c a b ∙ ap (λ (x : ℕ). x - c * b) (mul_comm c a) ∙ ap (λ (x : ℕ). a * c - x) (mul_comm c b)

-- what equals a fraction above 0 has an m above 0
pub no_zero : (n : ℕ) (g : ℤ) (b d : ℕ) → 0 < b → n * up g * d ≡ b * down g → n ≡ 0 → ⊥
no_zero n g b d B q z =
    lt_irrefl 0 (subst (λ (x : ℕ). 0 < x) (sym q ∙ ap (λ (x : ℕ). x * up g * d) z ∙ ap (λ (x : ℕ). x * d) (zero-mul (up g)) ∙ zero-mul d) (mul-pos B (down_pos g)))

module _ (f : Format) where
  pub mul_at : (x y : Float) (s : Bool) (a c b d : ℕ) → 0 < c → 0 < d → HasValue x s a c → HasValue y false b d → mul f x y ≡ round f s (a * b) (c * d)
  unfolding mul
  mul_at nan y s a c b d C D v w = absurd v
  mul_at (inf t) y s a c b d C D v w = absurd v
  mul_at (fin t m e) nan s a c b d C D v w = absurd w
  mul_at (fin t m e) (inf u) s a c b d C D v w = absurd w
  mul_at (fin t m e) (fin true n g) s a c b d C D v w = absurd (true≢false w.0)
  mul_at (fin t m e) (fin false n g) s a c b d C D v w = signed t s v.0
    where
      P : m * up e * c ≡ a * down e
      P = v.1

      Q : n * up g * d ≡ b * down g
      Q = w.1

      fractions : m * up e * (n * up g) * (c * d) ≡ a * b * (down e * down g)
      fractions = omega (arith, ap (λ (x : ℕ). x * (n * up g * d)) P, ap (λ (x : ℕ). a * down e * x) Q)

      signed : (t s : Bool) → t ≡ s → round f (not (beq t false)) (m * up e * (n * up g)) (down e * down g) ≡ round f s (a * b) (c * d)
      signed true true h = round_same f true (m * up e * (n * up g)) (down e * down g) (a * b) (c * d) (mul-pos (down_pos e) (down_pos g)) (mul-pos C D) fractions
      signed false false h = round_same f false (m * up e * (n * up g)) (down e * down g) (a * b) (c * d) (mul-pos (down_pos e) (down_pos g)) (mul-pos C D) fractions
      signed true false h = absurd (true≢false h)
      signed false true h = absurd (true≢false (sym h))

  pub div_at : (x y : Float) (s : Bool) (a c b d : ℕ) → 0 < c → 0 < d → 0 < b → HasValue x s a c → HasValue y false b d → div f x y ≡ round f s (a * d) (b * c)
  unfolding div
  div_at nan y s a c b d C D B v w = absurd v
  div_at (inf t) y s a c b d C D B v w = absurd v
  div_at (fin t m e) nan s a c b d C D B v w = absurd w
  div_at (fin t m e) (inf u) s a c b d C D B v w = absurd w
  div_at (fin t m e) (fin true n g) s a c b d C D B v w = absurd (true≢false w.0)
  div_at (fin t m e) (fin false n g) s a c b d C D B v w = rw (ne_eqb n 0 some) (signed t s v.0)
    where
      P : m * up e * c ≡ a * down e
      P = v.1

      Q : n * up g * d ≡ b * down g
      Q = w.1

      some : n ≡ 0 → ⊥
      some = no_zero n g b d B Q

      under : 0 < n * up g * down e
      under = mul-pos (mul-pos (positive n some) (up_pos g)) (down_pos e)
        where
          positive : (n : ℕ) → (n ≡ 0 → ⊥) → 0 < n
          positive zero h = absurd (h refl)
          positive (suc n) h = omega arith

      fractions : m * up e * down g * (b * c) ≡ a * d * (n * up g * down e)
      fractions = omega (arith, ap (λ (x : ℕ). x * (down g * b)) P, ap (λ (x : ℕ). a * down e * x) Q)

      signed : (t s : Bool) → t ≡ s → round f (not (beq t false)) (m * up e * down g) (n * up g * down e) ≡ round f s (a * d) (b * c)
      signed true true h = round_same f true (m * up e * down g) (n * up g * down e) (a * d) (b * c) under (mul-pos B C) fractions
      signed false false h = round_same f false (m * up e * down g) (n * up g * down e) (a * d) (b * c) under (mul-pos B C) fractions
      signed true false h = absurd (true≢false h)
      signed false true h = absurd (true≢false (sym h))

  -- a sum sees only the values of its fractions
  module _ (c w : ℕ) (C : 0 < c) (W : 0 < w) where
    order : (a b A B : ℕ) → a * w ≡ A * c → b * w ≡ B * c → ltb a b ≡ ltb A B
    order a b A B p q =
        ltb_same a b A B (λ h. lt_of_mul-lt-mul_right c (omega (arith, mul-lt-mul_of_pos_right h W))) (λ h. le_of_mul-le-mul_right (omega (arith, mul-le-mul_right w h)) C)

    less : (a b A B : ℕ) → a * w ≡ A * c → b * w ≡ B * c → (b - a) * w ≡ (B - A) * c
    less a b A B p q = sub_mul' b a w ∙ ap (λ (x : ℕ). b * w - x) p ∙ ap (λ (x : ℕ). x - A * c) q ∙ sym (sub_mul' B A c)

    sum_same : (s t : Bool) (a b A B : ℕ) → a * w ≡ A * c → b * w ≡ B * c → sum f s a t b c ≡ sum f s A t B w
    unfolding sum
    sum_same s t a b A B p q =
        let added : round f s (a + b) c ≡ round f s (A + B) w = round_same f s (a + b) c (A + B) w C W (omega arith) in
        let over : round f t (b - a) c ≡ round f t (B - A) w = round_same f t (b - a) c (B - A) w C W (less a b A B p q) in
        let under : round f (s && ltb b a) (a - b) c ≡ round f (s && ltb B A) (A - B) w =
        round_same f (s && ltb b a) (a - b) c (A - B) w C W (less b a B A q p) ∙ ap (λ (x : Bool). round f (s && x) (A - B) w) (order b a B A q p) in
        ap (λ (x : Float). cond (beq s t) x (cond (ltb a b) (round f t (b - a) c) (round f (s && ltb b a) (a - b) c))) added
        ∙ ap (λ (x : Float). cond (beq s t) (round f s (A + B) w) (cond (ltb a b) x (round f (s && ltb b a) (a - b) c))) over
        ∙ ap (λ (x : Float). cond (beq s t) (round f s (A + B) w) (cond (ltb a b) (round f t (B - A) w) x)) under
        ∙ ap (λ (x : Bool). cond (beq s t) (round f s (A + B) w) (cond x (round f t (B - A) w) (round f (s && ltb B A) (A - B) w))) (order a b A B p q)

  pub add_at : (x y : Float) (s t : Bool) (A B w : ℕ) → 0 < w → HasValue x s A w → HasValue y t B w → add f x y ≡ sum f s A t B w
  unfolding add
  add_at nan y s t A B w W v u = absurd v
  add_at (inf i) y s t A B w W v u = absurd v
  add_at (fin i m e) nan s t A B w W v u = absurd u
  add_at (fin i m e) (inf j) s t A B w W v u = absurd u
  add_at (fin i m e) (fin j n g) s t A B w W v u =
      ap (λ (x : Bool). sum f x (m * up e * down g) j (n * up g * down e) (down e * down g)) v.0
      ∙ ap (λ (x : Bool). sum f s (m * up e * down g) x (n * up g * down e) (down e * down g)) u.0
      ∙ sum_same (down e * down g) w (mul-pos (down_pos e) (down_pos g)) W s t (m * up e * down g) (n * up g * down e) A B
      (omega (arith, ap (λ (x : ℕ). x * down g) v.1)) (omega (arith, ap (λ (x : ℕ). x * down e) u.1))
