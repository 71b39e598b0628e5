-- The laws of `specs/MinMax.antt`, over the order: what std and `chosen` choose is picked, two results agree but for a zero's sign, and what is picked next does not turn on that sign. Assumes nothing.
use Rattle.std.proofs.Common.{◌≡◌, zero, suc, Bool, true, false, cond, not, T, sym, refl, ap, ◌∙◌, subst, ◌⊎◌, inl, inr}
use lib.Ieee.{Float, nan, inf, fin, Format, is_nan, fits}
use Rattle.math.specs.MinMax.{chosen}
use Rattle.math.specs.Picked.{Picked, plain}
use Rattle.math.proofs.Whole.{is_nan_lem}
use Rattle.math.proofs.Order.{Order}

-- ---- what a choice of std's between a and b is: one of the two
choice : (t : Bool) (a b r : Float) → r ≡ cond t a b → (r ≡ a) ⊎ (r ≡ b)
choice true a b r e = inl e
choice false a b r e = inr e

other_choice : (t : Bool) (a b r : Float) → r ≡ cond t b a → (r ≡ a) ⊎ (r ≡ b)
other_choice true a b r e = inr e
other_choice false a b r e = inl e

pub either_choice : (t u : Bool) (a b r : Float) → (r ≡ cond t b a) ⊎ (r ≡ cond u a b) → (r ≡ a) ⊎ (r ≡ b)
either_choice t u a b r h = elim h [ inl e ↦ other_choice t a b r e | inr e ↦ choice u a b r e ]

-- ---- NaN or a number
not_both : (b : Bool) → T b → T (not b) → ⊥
not_both true t f = f
not_both false t f = t

is_number : (x : Float) → is_nan x ≡ false → T (not (is_nan x))
is_number x e = subst (λ (n : Bool). T (not n)) (sym e) tt

no_number : (x : Float) → is_nan x ≡ true → T (not (is_nan x)) → ⊥
no_number x e = not_both (is_nan x) (subst T (sym e) tt)

nan_plain : (x : Float) → is_nan (plain x) ≡ is_nan x
unfolding is_nan
nan_plain nan = refl
nan_plain (inf s) = refl
nan_plain (fin s zero e) = refl
nan_plain (fin s (suc m) e) = refl

plain_plain : (x : Float) → plain (plain x) ≡ plain x
plain_plain nan = refl
plain_plain (inf s) = refl
plain_plain (fin s zero e) = refl
plain_plain (fin s (suc m) e) = refl

module _ {before under : Float → Float → Bool} (o : Order before under) (a b : Float) where
  -- ---- what `chosen` chooses is picked
  pub picks : Picked under a b (chosen before a b)
  picks = go (is_nan a) refl (before b a) refl
    where
      go : (n : Bool) → is_nan a ≡ n → (c : Bool) → before b a ≡ c → Picked under a b (cond n b (cond c b a))
      go true p c q = record { picked = inr refl; left = λ t. absurd (no_number a p t); right = o.self b }
      go false p true q = record { picked = inr refl; left = λ t. o.weak b a q; right = o.self b }
      go false p false q = record { picked = inl refl; left = o.self a; right = λ t. o.total a b (is_number a p) t q }

  -- ---- what is picked fits, and is known but for a zero's sign
  module _ (f : Format) (p : T (fits f a)) (q : T (fits f b)) where
    pub picked_fits : (r : Float) → Picked under a b r → T (fits f r)
    picked_fits r h = elim h.picked [
      | inl e ↦ subst (λ (x : Float). T (fits f x)) (sym e) p
      | inr e ↦ subst (λ (x : Float). T (fits f x)) (sym e) q
    ]

    -- a and b themselves, where each may be picked
    either : (T (not (is_nan b)) → T (under a b)) → (T (not (is_nan a)) → T (under b a)) → plain a ≡ plain b
    either h k = go (is_nan a) refl (is_nan b) refl
      where
        go : (n : Bool) → is_nan a ≡ n → (m : Bool) → is_nan b ≡ m → plain a ≡ plain b
        go true e true d = ap plain (is_nan_lem a e ∙ sym (is_nan_lem b d))
        go true e false d = absurd (no_number a e (o.number a b (h (is_number b d))))
        go false e true d = absurd (no_number b d (o.number b a (k (is_number a e))))
        go false e false d = o.antisymm f a b p q (h (is_number b d)) (k (is_number a e))

    both : (r r' : Float) → r ≡ a → r' ≡ b → Picked under a b r → Picked under a b r' → plain r ≡ plain r'
    both r r' e e' g g' =
        ap plain e ∙ either (λ n. subst (λ (x : Float). T (under x b)) e (g.right n)) (λ n. subst (λ (x : Float). T (under x a)) e' (g'.left n)) ∙ ap plain (sym e')

    pub agree : (r r' : Float) → Picked under a b r → Picked under a b r' → plain r ≡ plain r'
    agree r r' g g' = elim g.picked [
      | inl e ↦ elim g'.picked [ inl e' ↦ ap plain (e ∙ sym e') | inr e' ↦ both r r' e e' g g' ]
      | inr e ↦ elim g'.picked [ inl e' ↦ sym (both r' r e' e g' g) | inr e' ↦ ap plain (e ∙ sym e') ]
    ]

    pub agree_first : (r : Float) → Picked under a b r → plain r ≡ plain (chosen before a b)
    agree_first r g = agree r (chosen before a b) g picks

  -- ---- what is picked next does not turn on that sign
  pub first_plain : plain (chosen before (plain a) b) ≡ plain (chosen before a b)
  first_plain = rw (nan_plain a, o.unsigned b a) (go (is_nan a) (before b a))
    where
      go : (n c : Bool) → plain (cond n b (cond c b (plain a))) ≡ plain (cond n b (cond c b a))
      go true c = refl
      go false true = refl
      go false false = plain_plain a
