-- The order of floats: what `le` and `lt` have in common with their converses, as one record, so that a law over it holds of the lesser and of the greater. Assumes nothing.
use Rattle.std.proofs.Common.{◌≡◌, ℕ, zero, suc, ◌+◌, ◌-◌, ◌*◌, ◌/◌, ◌^◌, ◌<◌, ◌≤◌, Bool, true, false, cond, not, ◌&&◌, ◌||◌, T, eqb, ltb, ◌⊎◌, ℤ, sym, refl, ap, ◌∙◌, subst, inl, inr, true≢false, zero-le, le_of_eq, le_of_lt, lt_irrefl, le_antisymm, eq-or-lt_of_le, mul-pos, arith, eqb→eq, ltb→lt, lt→ltb, ltb-false, le-ltb}
use lib.Dec.{eqb_refl}
use lib.Ieee as Ieee
use lib.Ieee.{Float, nan, inf, fin, Format, prec, low, top, hid, size, up, down, lt, le, eq, is_nan, fits, to_bits, of_bits}
use lib.Ieee.Bits.{of_bits-to_bits}
use lib.Ieee.Fits.{and_i, and_l, and_r, eq→eqb, up_pos, down_pos}
use lib.Ieee.Nearest.{div_same}
use Rattle.math.specs.MinMax.{gt}
use Rattle.math.specs.Picked.{ge, plain}

-- `before` is strict, and `under` the same with equality
pub record Order (before under : Float → Float → Bool) : Type 0 where
  pub self : (x : Float) → T (not (is_nan x)) → T (under x x)
  pub weak : (x y : Float) → before x y ≡ true → T (under x y)
  pub total : (x y : Float) → T (not (is_nan x)) → T (not (is_nan y)) → before y x ≡ false → T (under x y)
  pub number : (x y : Float) → T (under x y) → T (not (is_nan x))
  -- but for a zero's sign
  pub antisymm : (f : Format) (x y : Float) → T (fits f x) → T (fits f y) → T (under x y) → T (under y x) → plain x ≡ plain y
  -- which `before` does not see
  pub unsigned : (x y : Float) → before x (plain y) ≡ before x y

or_left : (a b : Bool) → T a → T (a || b)
or_left true b t = tt
or_left false b t = absurd t

or_right : (a b : Bool) → T b → T (a || b)
or_right true b t = tt
or_right false b t = t

level_self : (s : Bool) (a : ℕ) → T (Ieee.below s a s a || Ieee.level s a s a)
level_self true a = or_right (ltb a a) (eqb a a && true) (and_i (eqb a a) true (eqb_refl a) tt)
level_self false a = or_right (ltb a a) (eqb a a && true) (and_i (eqb a a) true (eqb_refl a) tt)

le_self : (x : Float) → T (not (is_nan x)) → T (le x x)
unfolding le lt eq is_nan
le_self nan t = absurd t
le_self (inf true) t = tt
le_self (inf false) t = tt
le_self (fin true m e) t = level_self true (m * up e * down e)
le_self (fin false m e) t = level_self false (m * up e * down e)

le_weak : (x y : Float) → lt x y ≡ true → T (le x y)
unfolding le
le_weak x y h = rw h tt

-- at two finite values
levels : (s t : Bool) (a b : ℕ) → Ieee.below t b s a ≡ false → T (Ieee.below s a t b || Ieee.level s a t b)
levels false false a b h = elim (eq-or-lt_of_le (ltb-false b a h)) [ inl e ↦ or_right (ltb a b) _ (and_i (eqb a b) true (eq→eqb e) tt) | inr l ↦ or_left (ltb a b) _ (lt→ltb a b l) ]
levels true true a b h = elim (eq-or-lt_of_le (ltb-false a b h)) [ inl e ↦ or_right (ltb b a) _ (and_i (eqb a b) true (eq→eqb (sym e)) tt) | inr l ↦ or_left (ltb b a) _ (lt→ltb b a l) ]
levels false true a b h =
    let z = ltb-false 0 (b + a) h in
    let x : a ≡ b = omega arith in
    let y : a ≡ 0 = omega arith in
    and_i (eqb a b) (eqb a 0) (eq→eqb x) (eq→eqb y)
levels true false a b h = elim (eq-or-lt_of_le (zero-le {n = a + b})) [
  | inl e ↦
      let x : a ≡ b = omega arith in
      let y : a ≡ 0 = omega arith in
      or_right (ltb 0 (a + b)) (eqb a b && eqb a 0) (and_i (eqb a b) (eqb a 0) (eq→eqb x) (eq→eqb y))
  | inr l ↦ or_left (ltb 0 (a + b)) (eqb a b && eqb a 0) (lt→ltb 0 (a + b) l)
]

le_total : (x y : Float) → T (not (is_nan x)) → T (not (is_nan y)) → lt y x ≡ false → T (le x y)
unfolding le lt eq is_nan
le_total nan y n k h = absurd n
le_total (inf s) nan n k h = absurd k
le_total (inf true) (inf true) n k h = tt
le_total (inf true) (inf false) n k h = tt
le_total (inf false) (inf true) n k h = absurd (true≢false h)
le_total (inf false) (inf false) n k h = tt
le_total (inf true) (fin t m e) n k h = tt
le_total (inf false) (fin t m e) n k h = absurd (true≢false h)
le_total (fin s m e) nan n k h = absurd k
le_total (fin s m e) (inf true) n k h = absurd (true≢false h)
le_total (fin s m e) (inf false) n k h = tt
le_total (fin s m e) (fin t p g) n k h = levels s t (m * up e * down g) (p * up g * down e) h

-- ---- of two values that fit, neither above the other
-- a value that fits is known by its sign and its size
module _ (f : Format) (s : Bool) (m : ℕ) (e : ℤ) (n : ℕ) (d : ℤ) (h : m * up e * down d ≡ n * up d * down e) where
  same_bits : to_bits f (fin s m e) ≡ to_bits f (fin s n d)
  unfolding to_bits
  same_bits =
      ap (λ (x : ℕ). cond s (top f) 0 + (size x - prec f) * hid f + x / 2 ^ (size x - prec f))
      (div_same (m * up e * 2 ^ low f) (down e) (n * up d * 2 ^ low f) (down d) (down_pos e) (down_pos d) (omega (arith, ap (λ (x : ℕ). x * 2 ^ low f) h)))

  one_way : T (fits f (fin s m e)) → T (fits f (fin s n d)) → fin s m e ≡ fin s n d
  one_way p q = sym (of_bits-to_bits f (fin s m e) p) ∙ ap (of_bits f) same_bits ∙ of_bits-to_bits f (fin s n d) q

no_less : (a b : ℕ) (level : Bool) → (T level → a ≤ b) → T (ltb a b || level) → a ≤ b
no_less a b level f h = go (ltb a b) refl h
  where
    go : (c : Bool) → ltb a b ≡ c → T (c || level) → a ≤ b
    go true p t = le_of_lt (ltb→lt a b (subst T (sym p) tt))
    go false p t = f t

equal : (a b : ℕ) → T (eqb a b && true) → a ≡ b
equal a b h = eqb→eq a b (and_l (eqb a b) true h)

both_zero : (a b : ℕ) → T (eqb a b && eqb a 0) → (a ≡ b) × (a ≡ 0)
both_zero a b h = (eqb→eq a b (and_l (eqb a b) (eqb a 0) h), eqb→eq a 0 (and_r (eqb a b) (eqb a 0) h))

-- ±a and ±b, neither above the other
tied : (s t : Bool) (a b : ℕ) → T (Ieee.below s a t b || Ieee.level s a t b) → T (Ieee.below t b s a || Ieee.level t b s a) → (a ≡ b) × ((s ≡ t) ⊎ (a ≡ 0))
tied false false a b h k = (le_antisymm (no_less a b _ (λ e. le_of_eq (equal a b e)) h) (no_less b a _ (λ e. le_of_eq (equal b a e)) k), inl refl)
tied true true a b h k = (le_antisymm (no_less a b _ (λ e. le_of_eq (sym (equal b a e))) k) (no_less b a _ (λ e. le_of_eq (sym (equal a b e))) h), inl refl)
tied false true a b h k = let z = both_zero a b h in (z.0, inr z.1)
tied true false a b h k = let z = both_zero b a k in (sym z.0, inr (sym z.0 ∙ z.1))

same_sign : (f : Format) (s t : Bool) (m : ℕ) (e : ℤ) (n : ℕ) (d : ℤ) → T (fits f (fin s m e)) → T (fits f (fin t n d)) → m * up e * down d ≡ n * up d * down e → s ≡ t → plain (fin s m e) ≡ plain (fin t n d)
same_sign f s t m e n d p q h is =
    ap plain (one_way f s m e n d h p (subst (λ (b : Bool). T (fits f (fin b n d))) (sym is) q)) ∙ ap (λ (b : Bool). plain (fin b n d)) is

no_digits : (m : ℕ) (e d : ℤ) → m * up e * down d ≡ 0 → m ≡ 0
no_digits zero e d h = refl
no_digits (suc m) e d h = absurd (lt_irrefl 0 (subst (λ (x : ℕ). 0 < x) h (mul-pos (mul-pos {m = suc m} (omega arith) (up_pos e)) (down_pos d))))

zeros : (f : Format) (s t : Bool) (m : ℕ) (e : ℤ) (n : ℕ) (d : ℤ) → T (fits f (fin s m e)) → T (fits f (fin t n d)) → m ≡ 0 → n ≡ 0 → plain (fin s m e) ≡ plain (fin t n d)
unfolding fits
zeros f s t zero e zero d p q y z = ap plain (one_way f false zero e zero d (omega arith) p q)
zeros f s t (suc m) e n d p q y z = absurd (omega arith)
zeros f s t zero e (suc n) d p q y z = absurd (omega arith)

le_antisymm_plain : (f : Format) (x y : Float) → T (fits f x) → T (fits f y) → T (le x y) → T (le y x) → plain x ≡ plain y
unfolding le lt eq
le_antisymm_plain f nan y p q h k = absurd h
le_antisymm_plain f (inf s) nan p q h k = absurd k
le_antisymm_plain f (fin s m e) nan p q h k = absurd k
le_antisymm_plain f (inf true) (inf true) p q h k = refl
le_antisymm_plain f (inf false) (inf false) p q h k = refl
le_antisymm_plain f (inf true) (inf false) p q h k = absurd k
le_antisymm_plain f (inf false) (inf true) p q h k = absurd h
le_antisymm_plain f (inf true) (fin t n d) p q h k = absurd k
le_antisymm_plain f (inf false) (fin t n d) p q h k = absurd h
le_antisymm_plain f (fin s m e) (inf true) p q h k = absurd h
le_antisymm_plain f (fin s m e) (inf false) p q h k = absurd k
le_antisymm_plain f (fin s m e) (fin t n d) p q h k =
    let a = m * up e * down d in
    let b = n * up d * down e in
    let z = tied s t a b h k in
    elim z.1 [
      | inl is ↦ same_sign f s t m e n d p q z.0 is
      | inr none ↦ zeros f s t m e n d p q (no_digits m e d none) (no_digits n d e (sym z.0 ∙ none))
    ]

le_numbers : (x y : Float) → T (le x y) → T (not (is_nan x)) × T (not (is_nan y))
unfolding le lt eq is_nan
le_numbers nan y h = absurd h
le_numbers (inf s) nan h = absurd h
le_numbers (inf s) (inf t) h = (tt, tt)
le_numbers (inf s) (fin t n d) h = (tt, tt)
le_numbers (fin s m e) nan h = absurd h
le_numbers (fin s m e) (inf t) h = (tt, tt)
le_numbers (fin s m e) (fin t n d) h = (tt, tt)

-- ---- a zero's sign
-- with a = 0
no_sign_left : (t : Bool) (a b : ℕ) → a ≡ 0 → Ieee.below false a t b ≡ Ieee.below true a t b
no_sign_left false a b z =
    let e : b ≡ a + b = omega arith in
    ap (λ (x : ℕ). ltb x b) z ∙ ap (λ (x : ℕ). ltb 0 x) e
no_sign_left true a b z = sym (le-ltb b a (omega arith))

no_sign_right : (s : Bool) (a b : ℕ) → b ≡ 0 → Ieee.below s a false b ≡ Ieee.below s a true b
no_sign_right false a b z = le-ltb a b (omega arith)
no_sign_right true a b z =
    let e : a + b ≡ a = omega arith in
    ap (λ (x : ℕ). ltb 0 x) e ∙ sym (ap (λ (x : ℕ). ltb x a) z)

lt_plain_left : (x y : Float) → lt (plain x) y ≡ lt x y
unfolding lt
lt_plain_left nan y = refl
lt_plain_left (inf s) y = refl
lt_plain_left (fin s (suc m) e) y = refl
lt_plain_left (fin false zero e) y = refl
lt_plain_left (fin true zero e) nan = refl
lt_plain_left (fin true zero e) (inf t) = refl
lt_plain_left (fin true zero e) (fin t n d) = no_sign_left t (0 * up e * down d) (n * up d * down e) (omega arith)

lt_plain_right : (x y : Float) → lt x (plain y) ≡ lt x y
unfolding lt
lt_plain_right nan y = refl
lt_plain_right (inf s) nan = refl
lt_plain_right (inf s) (inf t) = refl
lt_plain_right (inf s) (fin t zero d) = refl
lt_plain_right (inf s) (fin t (suc n) d) = refl
lt_plain_right (fin s m e) nan = refl
lt_plain_right (fin s m e) (inf t) = refl
lt_plain_right (fin s m e) (fin t (suc n) d) = refl
lt_plain_right (fin s m e) (fin false zero d) = refl
lt_plain_right (fin s m e) (fin true zero d) = no_sign_right s (m * up e * down d) (0 * up d * down e) (omega arith)

-- ---- the two orders
pub less : Order lt le
less = record { self = le_self; weak = le_weak; total = le_total; number = λ x y h. (le_numbers x y h).0; antisymm = le_antisymm_plain; unsigned = lt_plain_right }

pub more : Order gt ge
more = record {
  self = le_self;
  weak = λ x y. le_weak y x;
  total = λ x y n k. le_total y x k n;
  number = λ x y h. (le_numbers y x h).1;
  antisymm = λ f x y p q h k. le_antisymm_plain f x y p q k h;
  unsigned = λ x y. lt_plain_left y x;
}
