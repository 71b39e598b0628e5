-- When a coordinate is outside, and what becomes of it: a fraction that isn't beyond stays as it is, clamped (`within_stays`); and a coordinate that is outside has the short 0 or 65535, a NaN 0 (`pushed_short`). Assumes nothing.
use mathlib.Core.Path.{◌≡◌, refl, sym, ap, ◌∙◌}
use mathlib.Core.Bool.{Bool, true, false, cond, not, ◌&&◌, ◌||◌, true≢false}
use mathlib.Core.Logic.{◌↔◌, ◌⊎◌, inl, inr, ⊎_elim}
use Prim.Native.Nat.{ℕ, ◌+◌, ◌*◌, ◌≤◌}
use native.Mathlib.Omega.{arith}
use lib.Dec.{ltb, eqb}
use lib.IntN.{ℤ}
use Rattle.std.specs.Prelude.{Some, None}
use Rattle.std.specs.Int.{from_bool}
use Rattle.std.specs.Ordering.{partial_le, float_partial_cmp}
use Rattle.std.specs.declared.cmp.Ordering.TheVariants.{Less, Equal, Greater}
use borrow.Author.Tests.{ltb-true, ltb-false, lt-ltb, le-ltb, eq-eqb, ne_eqb, not-false}
use lib.Ieee.{Float, nan, inf, fin, binary32, up, down, mul, lt, eq, le, is_nan}
use lib.Ieee.Fits.{down_pos}
use Rattle.quantise.specs.Short.{nought, unit, most, least, magnitude, fraction, clamped, nearest_number, short, beyond, outside, outside_count}
use Rattle.quantise.specs.Steps.{border_of}
use Rattle.quantise.specs.Inside.{Inside, InsideBox}
use Rattle.math.specs.declared.vec3.Vec3.{Vec3}

-- ---- tests

or_false : (a : Bool) → a || false ≡ a
or_false true = refl
or_false false = refl

pub and_true : (a : Bool) → a && true ≡ a
and_true true = refl
and_true false = refl

pub and_false : (a : Bool) → a && false ≡ false
and_false true = refl
and_false false = refl

only_first : (a : Bool) → a || false || false ≡ true → a ≡ true
only_first true h = refl
only_first false h = h

-- ---- the test of a fraction

-- a number with the sign - is not below 0 exactly where it is -0
minus : (m : ℕ) (e : ℤ) → lt (fin true m e) nought ≡ not (le nought (fin true m e))
unfolding lt le eq
minus m e = go (lt (fin true m e) nought) refl
  where
    none : eqb (0 * down e) 0 ≡ true
    none = eq-eqb (0 * down e) 0 (omega arith)

    go : (b : Bool) → lt (fin true m e) nought ≡ b → b ≡ not (le nought (fin true m e))
    go true p =
        let some = ltb-true 0 (m * up e * 1 + 0 * down e) p in
        rw (ne_eqb (0 * down e) (m * up e * 1) (λ h. omega arith))
    go false p =
        let zero = ltb-false 0 (m * up e * 1 + 0 * down e) p in
        rw (eq-eqb (0 * down e) (m * up e * 1) (omega arith), none)

-- and one with the sign + never is
plus_not_below : (m : ℕ) (e : ℤ) → lt (fin false m e) nought ≡ false
unfolding lt
plus_not_below m e = le-ltb (m * up e * 1) (0 * down e) (omega arith)

plus_from : (m : ℕ) (e : ℤ) → le nought (fin false m e) ≡ true
unfolding lt le eq
plus_from m e = go (ltb (0 * down e) (m * up e * 1)) refl
  where
    go : (b : Bool) → ltb (0 * down e) (m * up e * 1) ≡ b → le nought (fin false m e) ≡ true
    go true p = rw (p)
    go false p = let zero = ltb-false (0 * down e) (m * up e * 1) p in rw (p, eq-eqb (0 * down e) (m * up e * 1) (omega arith))

beyond_above : (t : Float) → le nought t ≡ true → lt unit t ≡ beyond t
unfolding beyond lt le eq is_nan
beyond_above nan h = absurd (true≢false (sym h))
beyond_above (inf true) h = absurd (true≢false (sym h))
beyond_above (inf false) h = refl
beyond_above (fin true m e) h = rw (minus m e, h)
beyond_above (fin false m e) h = rw (plus_not_below m e, or_false (lt unit (fin false m e)))

beyond_below : (t : Float) → le nought t ≡ false → true ≡ beyond t
unfolding beyond lt le eq is_nan
beyond_below nan h = refl
beyond_below (inf true) h = refl
beyond_below (inf false) h = absurd (true≢false h)
beyond_below (fin true m e) h = rw (minus m e, h)
beyond_below (fin false m e) h = absurd (true≢false (sym (plus_from m e) ∙ h))

-- a number is above 1 exactly where it isn't at most 1
above_unit : (t : Float) → le nought t ≡ true → lt unit t ≡ not (le t unit)
unfolding lt le eq
above_unit nan h = absurd (true≢false (sym h))
above_unit (inf true) h = refl
above_unit (inf false) h = refl
above_unit (fin true m e) h = rw (lt-ltb 0 (m * up e * 1 + 1 * down e) (omega (arith, down_pos e)))
above_unit (fin false m e) h = go (ltb (1 * down e) (m * up e * 1)) refl
  where
    go : (b : Bool) → ltb (1 * down e) (m * up e * 1) ≡ b → b ≡ not (le (fin false m e) unit)
    go true p =
        let more = ltb-true (1 * down e) (m * up e * 1) p in
        rw (le-ltb (m * up e * 1) (1 * down e) (omega arith), ne_eqb (m * up e * 1) (1 * down e) (λ h. omega arith))
    go false p = at_most (ltb (m * up e * 1) (1 * down e)) refl
      where
        at_most : (b : Bool) → ltb (m * up e * 1) (1 * down e) ≡ b → false ≡ not (le (fin false m e) unit)
        at_most true q = rw (q)
        at_most false q =
            let least-so = ltb-false (m * up e * 1) (1 * down e) q in
            let most-so = ltb-false (1 * down e) (m * up e * 1) p in
            rw (q, eq-eqb (m * up e * 1) (1 * down e) (omega arith))

-- the test by std's range 0.0..=1.0, whose order of floats is that of `partial_cmp`
le_compared : (x y : Float) → partial_le float_partial_cmp x y ≡ le x y
unfolding le
le_compared x y = go (lt x y) (eq x y) (lt y x)
  where
    go : (below level above : Bool)
        → partial_le {X = Float} (λ a b. cond below (Some Less) (cond level (Some Equal) (cond above (Some Greater) None))) x y ≡ below || level
    go true level above = refl
    go false true above = refl
    go false false true = refl
    go false false false = refl

pub range_beyond : (t : Float) → not (partial_le float_partial_cmp nought t && partial_le float_partial_cmp t unit) ≡ beyond t
range_beyond t = rw (le_compared nought t, le_compared t unit) (go (le nought t) refl)
  where
    go : (b : Bool) → le nought t ≡ b → not (b && le t unit) ≡ beyond t
    go true h = sym (above_unit t h) ∙ beyond_above t h
    go false h = beyond_below t h

-- what isn't beyond is as it was, clamped
pub within_stays : (t : Float) → beyond t ≡ false → clamped t ≡ t
unfolding beyond clamped
within_stays t = go (lt t nought) (lt unit t)
  where
    go : (below above : Bool) → below || above || is_nan t ≡ false → cond below nought (cond above unit t) ≡ t
    go true above h = absurd (true≢false h)
    go false true h = absurd (true≢false h)
    go false false h = refl

-- ---- where a coordinate that is outside comes to stand

pub beyond_short : (t : Float) → beyond t ≡ true → nearest_number (mul binary32 (clamped t) most) ≡ border_of t
unfolding beyond lt is_nan clamped nearest_number mul
beyond_short nan h = refl
beyond_short (inf true) h = refl
beyond_short (inf false) h = refl
beyond_short (fin true m e) h = rw (only_first (lt (fin true m e) nought) h)
beyond_short (fin false m e) h =
    let above : lt unit (fin false m e) ≡ true = sym (or_false (lt unit (fin false m e))) ∙ (rw (plus_not_below m e) at h) in
    rw (plus_not_below m e, above)

module _ (a lo extent : Float) where
  -- "a coordinate pushed to the border": 65535 where its fraction is above 1, and otherwise 0, as for a NaN
  pub pushed_short : outside a lo extent ≡ true → short a lo extent ≡ cond (lt unit (fraction a lo extent)) 65535 0
  unfolding outside short
  pushed_short = go (lt (magnitude extent) least)
    where
      go : (small : Bool) → not small && beyond (fraction a lo extent) ≡ true
          → cond small 0 (nearest_number (mul binary32 (clamped (fraction a lo extent)) most)) ≡ cond (lt unit (fraction a lo extent)) 65535 0
      go true h = absurd (true≢false (sym h))
      go false h = beyond_short (fraction a lo extent) h

  pub pushed_to_an_end : outside a lo extent ≡ true → (short a lo extent ≡ 0) ⊎ (short a lo extent ≡ 65535)
  pushed_to_an_end h = go (lt unit (fraction a lo extent)) (pushed_short h)
    where
      go : (above : Bool) → short a lo extent ≡ cond above 65535 0 → (short a lo extent ≡ 0) ⊎ (short a lo extent ≡ 65535)
      go true e = inr e
      go false e = inl e

  pub no_number_short : is_nan (fraction a lo extent) ≡ true → short a lo extent ≡ 0
  unfolding short is_nan clamped nearest_number mul lt
  no_number_short = go (fraction a lo extent) (lt (magnitude extent) least)
    where
      go : (t : Float) (small : Bool) → is_nan t ≡ true → cond small 0 (nearest_number (mul binary32 (clamped t) most)) ≡ 0
      go nan true h = refl
      go nan false h = refl
      go (inf s) small h = absurd (true≢false (sym h))
      go (fin s m e) small h = absurd (true≢false (sym h))

-- ---- outside, and inside

-- "pushed is 0 exactly when every coordinate's fraction is a number in 0..1 or its extent is tiny": of one coordinate
module _ (a lo extent : Float) where
  pub inside_exactly : (outside a lo extent ≡ false) ↔ Inside a lo extent
  unfolding outside
  inside_exactly = (there (lt (magnitude extent) least) refl, λ i. ⊎_elim (λ small. rw (small)) within i)
    where
      there : (small : Bool) → lt (magnitude extent) least ≡ small → not small && beyond (fraction a lo extent) ≡ false → Inside a lo extent
      there true p h = inl p
      there false p h = from (le nought (fraction a lo extent)) refl
        where
          from : (b : Bool) → le nought (fraction a lo extent) ≡ b → Inside a lo extent
          from false q = absurd (true≢false (beyond_below (fraction a lo extent) q ∙ h))
          from true q = inr (q, not-false (le (fraction a lo extent) unit) (sym (above_unit (fraction a lo extent) q) ∙ beyond_above (fraction a lo extent) q ∙ h))

      within : (le nought (fraction a lo extent) ≡ true) × (le (fraction a lo extent) unit ≡ true) → outside a lo extent ≡ false
      within (q, r) = let z : beyond (fraction a lo extent) ≡ false = sym (beyond_above (fraction a lo extent) q) ∙ above_unit (fraction a lo extent) q ∙ ap not r in rw (z, and_false (not (lt (magnitude extent) least)))

-- ---- three coordinates

abbrev pub one : Bool → ℕ
one b = cond b 1 0

one_few : (b : Bool) → one b ≤ 1
one_few true = omega arith
one_few false = omega arith

one_none : (b : Bool) → one b ≡ 0 → b ≡ false
one_none true h = absurd (omega arith)
one_none false h = refl

-- std's number of a `bool`
pub byte_one : (b : Bool) → from_bool b ≡ one b
byte_one true = refl
byte_one false = refl

module _ (v bb-min bb-size : Vec3) where
  pub few_outside : outside_count v bb-min bb-size ≤ 3
  unfolding outside_count
  few_outside = omega (arith, one_few (outside v.x bb-min.x bb-size.x), one_few (outside v.y bb-min.y bb-size.y), one_few (outside v.z bb-min.z bb-size.z))

  pub none_outside : (outside_count v bb-min bb-size ≡ 0) ↔ InsideBox v bb-min bb-size
  unfolding outside_count
  none_outside = (
    λ h. ((inside_exactly _ _ _).0 (one_none (outside v.x bb-min.x bb-size.x) (omega arith)), (inside_exactly _ _ _).0 (one_none (outside v.y bb-min.y bb-size.y) (omega arith)), (inside_exactly _ _ _).0 (one_none (outside v.z bb-min.z bb-size.z) (omega arith))),
    λ (x, y, z). rw ((inside_exactly _ _ _).1 x, (inside_exactly _ _ _).1 y, (inside_exactly _ _ _).1 z),
  )
