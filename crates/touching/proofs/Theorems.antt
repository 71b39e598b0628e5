-- Areas that touch: it goes both ways, nothing from 10000 on touches, and what touches did so before request 5 too. Each by the facts for which the
-- test stands. Then examples, computed.
use Prim.Native.Nat.{ℕ, ◌≤◌}
use mathlib.Core.Path.{◌≡◌, refl, sym, ◌∙◌}
use mathlib.Core.Bool.{Bool, true, false, false≢true}
use mathlib.Core.Logic.{◌⊎◌, inl, inr, ⊎_elim}
use native.Mathlib.Omega.{arith}
use Rattle.touching.specs.Touch.{apart, row, touch}
use Rattle.touching.specs.Before.{touch_by_number}
use Rattle.touching.proofs.Touches.{Touches, outside_own, outside_other, touches}

turned : {a b : ℕ} → Touches a b → Touches b a
turned t = record { own_inside = t.other_inside; other_inside = t.own_inside; near = ⊎_elim (λ e. inl (omega arith)) (λ e. inr (omega arith, omega arith)) t.near }

pub touch_symmetric : (a b : ℕ) → touch a b ≡ touch b a
touch_symmetric a b = by (touch a b) (touch b a) refl refl
  where
    by : (t u : Bool) → touch a b ≡ t → touch b a ≡ u → t ≡ u
    by true true e f = refl
    by true false e f = absurd (false≢true (sym f ∙ (touches b a).1 (turned ((touches a b).0 e))))
    by false true e f = absurd (false≢true (sym e ∙ (touches a b).1 (turned ((touches b a).0 f))))
    by false false e f = refl

-- "an area of 10000 or more touches none"
pub touches_none : (a b : ℕ) → (10000 ≤ a) ⊎ (10000 ≤ b) → touch a b ≡ false
touches_none a b (inl h) = sym (outside_own a b h)
touches_none a b (inr h) = sym (outside_other a b h)

-- what touches did so before
pub touched_before : (a b : ℕ) → touch a b ≡ true → touch_by_number a b ≡ true
unfolding touch_by_number
touched_before a b e = near ((touches a b).0 e).near
  where
    near : (apart a b ≡ 100) ⊎ ((apart a b ≡ 1) × (row a ≡ row b)) → touch_by_number a b ≡ true
    near (inl h) = rw h
    near (inr h) = rw h.0

-- east and west ends of a row, the last row, numbers that wrap, and NONE's area
east_end : touch 99 100 ≡ false
unfolding touch
east_end = refl

next_row : touch 99 199 ≡ true
unfolding touch
next_row = refl

east_end_before : touch_by_number 99 100 ≡ true
unfolding touch_by_number
east_end_before = refl

west_end : touch 100 99 ≡ false
unfolding touch
west_end = refl

past_the_grid : touch 9999 10000 ≡ false
unfolding touch
past_the_grid = refl

last_row : touch 9899 9999 ≡ true
unfolding touch
last_row = refl

no_wrap : touch 0 4294967295 ≡ false
unfolding touch
no_wrap = refl

beside_none : touch 16382 16383 ≡ false
unfolding touch
beside_none = refl
