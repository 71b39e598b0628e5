-- The exact return of shorts: on an axis whose extent is from 128 to 4096, and whose lo and lo + extent are within -16384 to 16384, a short turned into a coordinate and back is the same short. Assumes nothing.
use mathlib.Core.Path.{◌≡◌, refl, sym, ap, ◌∙◌, subst}
use mathlib.Core.Logic.{◌⊎◌, inl, inr}
use mathlib.Core.Bool.{Bool, true, false, not, cond, ◌&&◌, true≢false}
use Prim.Native.Nat.{ℕ, ◌+◌, ◌-◌, ◌*◌, ◌^◌, ◌≤◌, ◌<◌, min}
use native.Mathlib.Nat.{le_refl, le_trans, le_of_lt, le_of_eq, le_antisymm, mul-pos, min-eq_left, lt_of_lt_of_le, lt_of_le_of_lt, eq-or-lt_of_le, sub-le}
use native.Mathlib.Omega.{arith}
use lib.Dec.{T, ltb, leb, leb→le, lit≤, lit<}
use lib.IntN.{ℤ, pos}
use lib.Pow.{pow_pos}
use borrow.Author.Tests.{lt-ltb, le-ltb, ltb-true, ltb-false, ne_eqb}
use lib.Ieee.{Float, nan, inf, fin, binary32, up, down, round, sum, add, sub, neg, mul, div, lt, of_int, fits}
use lib.Ieee.Exact.{HasValue, round_exact}
use lib.Ieee.Fits.{down_pos, and_l, and_r, div-fits}
use Rattle.math.proofs.Scaled as scaled
use Rattle.math.proofs.Scaled.{Within}
use Rattle.quantise.specs.Short.{short, coordinate, least, clamped, most, unit, nought}
use Rattle.quantise.specs.Steps.{rounded_u16}
use Rattle.quantise.specs.Returning.{returning}
use Rattle.quantise.proofs.Numbers.{signed, round_signed, part_is, part_near, last_part}
use Rattle.quantise.proofs.Near.{Near, rounds_near}
use Rattle.quantise.proofs.Units.{w, h, Rounded, rounded, rounded_value, at_end, in_range, clamps}
use Rattle.quantise.proofs.Ops.{mul_at, div_at, add_at, no_zero}
use Rattle.quantise.proofs.Capped.{product, uncapped}
use Rattle.math.proofs.Whole.{lt_true}
use Rattle.quantise.proofs.Chain.{Close, cancel, back, last, nearest_is, zeroth, inside, over, over_behind, across, across_none, under, under_behind, under_none, x_room, t_room, r1_room, r2_room, at_least, at_most, sum_at_most, in_units, as_one, exact_two, same_value, wider, not_tiny}

-- ---- (lo + r) - lo
data Back (x : Float) (r : ℕ) : Type 0 where
  ahead : (y : ℕ) → x ≡ round binary32 false y w → Close y r (16384 * h) → Back x r
  below_lo : (y : ℕ) → x ≡ round binary32 true y w → 2 * r ≤ 16384 * h → Back x r

neg_value : (x : Float) (s : Bool) (a c : ℕ) → HasValue x s a c → HasValue (neg x) (not s) a c
unfolding neg
neg_value nan s a c v = absurd v
neg_value (inf t) s a c v = absurd v
neg_value (fin t m e) s a c v = (ap not v.0, v.1)

-- a sum of two signs
less : (s : Bool) (a b : ℕ) → a < b → sum binary32 s a (not s) b w ≡ round binary32 (not s) (b - a) w
unfolding sum
less true a b g = rw (lt-ltb a b g)
less false a b g = rw (lt-ltb a b g)

more : (s : Bool) (a b : ℕ) → b ≤ a → sum binary32 s a (not s) b w ≡ round binary32 (s && ltb b a) (a - b) w
unfolding sum
more true a b g = rw (le-ltb a b g)
more false a b g = rw (le-ltb a b g)

-- and of one
both : (s : Bool) (a b : ℕ) → sum binary32 s a s b w ≡ round binary32 s (a + b) w
unfolding sum
both true a b = refl
both false a b = refl

order : (a b : ℕ) → (a < b) ⊎ (b ≤ a)
order a b = go (ltb a b) (ltb-true a b) (ltb-false a b)
  where
    go : (t : Bool) → (t ≡ true → a < b) → (t ≡ false → b ≤ a) → (a < b) ⊎ (b ≤ a)
    go true f g = inl (f refl)
    go false f g = inr (g refl)

module _ (lo r : Float) (l k : ℕ) (vr : HasValue r false k w) where
  abbrev x : Float
  x = add binary32 lo r

  -- x is s a, and lo is t l
  off : (s t : Bool) (a : ℕ) → HasValue x s a w → HasValue lo t l w → sub binary32 x lo ≡ sum binary32 s a (not t) l w
  unfolding sub
  off s t a v u = add_at binary32 x (neg lo) s (not t) a l w (pow_pos 149) v (neg_value lo t l w u)

  -- lo is l
  from_positive : HasValue lo false l w → l + k ≤ 2 ^ 163 → Back (sub binary32 x lo) k
  from_positive v room =
      let is : x ≡ round binary32 false (l + k) w = add_at binary32 lo r false false l k w (pow_pos 149) v vr ∙ both false l k in
      let a = subst (Rounded false (l + k) 139) (sym is) (rounded false (l + k) 139 (lit≤ tt) room) in
      let d = off false false a.units a.value v in
      elim (order a.units l) [
        | inl g ↦ below_lo (l - a.units) (d ∙ less false a.units l g) (over_behind l k a.units (2 ^ 139) a.near g)
        | inr g ↦ ahead (a.units - l) (d ∙ more false a.units l g) (over l k a.units (2 ^ 139) a.near g)
      ]

  -- lo is -l
  module _ (v : HasValue lo true l w) (room : l ≤ 2 ^ 163) (short-of : k ≤ 2 ^ 163) where
    sum_is : x ≡ sum binary32 true l false k w
    sum_is = add_at binary32 lo r true false l k w (pow_pos 149) v vr

    beyond : l < k → Back (sub binary32 x lo) k
    beyond g =
        let a = subst (Rounded false (k - l) 139) (sym (sum_is ∙ less true l k g)) (rounded false (k - l) 139 (lit≤ tt) (le_trans (sub-le k l) short-of)) in
        ahead (a.units + l) (off false true a.units a.value v ∙ both false a.units l) (across l k a.units (2 ^ 139) (le_of_lt g) a.near)

    at : (s : Bool) → ltb k l ≡ s → k ≤ l → Rounded s (l - k) 139 x
    at s e g =
        subst (Rounded s (l - k) 139) (sym (sum_is ∙ more true l k g ∙ ap (λ (t : Bool). round binary32 t (l - k) w) e))
        (rounded s (l - k) 139 (lit≤ tt) (le_trans (sub-le l k) room))

    to_zero : l ≡ k → Back (sub binary32 x lo) k
    to_zero g =
        let a = at false (le-ltb k l (le_of_eq g)) (le_of_eq (sym g)) in
        ahead (a.units + l) (off false true a.units a.value v ∙ both false a.units l) (across_none l k a.units (2 ^ 139) g a.near)

    within : k < l → Back (sub binary32 x lo) k
    within g =
        let a = at true (lt-ltb k l g) (le_of_lt g) in
        let y = a.units in
        let d = off true true y a.value v in
        elim (order y l) [
          | inl f ↦ ahead (l - y) (d ∙ less true y l f) (under l k y (2 ^ 139) (le_of_lt g) a.near (le_of_lt f))
          | inr f ↦ elim (order l y) [
            | inl f' ↦ below_lo (y - l) (d ∙ more true y l f ∙ ap (λ (t : Bool). round binary32 t (y - l) w) (lt-ltb l y f')) (under_behind l k y (2 ^ 139) (le_of_lt g) a.near f)
            | inr f' ↦ ahead (y - l) (d ∙ more true y l f ∙ ap (λ (t : Bool). round binary32 t (y - l) w) (le-ltb l y f')) (under_none l k y (2 ^ 139) (le_of_lt g) a.near (le_antisymm f' f))
          ]
        ]

    from_negative : Back (sub binary32 x lo) k
    from_negative = elim (order l k) [
      | inl g ↦ beyond g
      | inr g ↦ elim (order k l) [ inl f ↦ within f | inr f ↦ to_zero (le_antisymm f g) ]
    ]

-- ---- a negative fraction gives 0
abbrev negative : Float → Bool
negative x = signed true x

div_negative : (x y : Float) (b d : ℕ) → 0 < b → T (negative x) → HasValue y false b d → T (negative (div binary32 x y))
unfolding div
div_negative (fin true m e) (fin false n g) b d p t v = rw (ne_eqb n 0 (no_zero n g b d p v.1)) (round_signed binary32 true (m * up e * down g) (n * up g * down e))
div_negative (inf true) (fin false n g) b d p t v = tt
div_negative x nan b d p t v = absurd v
div_negative x (inf s) b d p t v = absurd v
div_negative x (fin true n g) b d p t v = absurd (true≢false v.0)
div_negative nan (fin false n g) b d p t v = absurd t
div_negative (inf false) (fin false n g) b d p t v = absurd t
div_negative (fin false m e) (fin false n g) b d p t v = absurd t

to_zero_of : (x : Float) → T (negative x) → rounded_u16 x ≡ 0
unfolding rounded_u16
to_zero_of nan t = absurd t
to_zero_of (inf true) t = refl
to_zero_of (inf false) t = absurd t
to_zero_of (fin true m e) t = refl
to_zero_of (fin false m e) t = absurd t

nothing : rounded_u16 (mul binary32 nought most) ≡ 0
unfolding rounded_u16 mul
nothing = refl

scaled_negative : (x : Float) → T (negative x) → T (negative (mul binary32 x most))
unfolding mul
scaled_negative nan t = absurd t
scaled_negative (inf true) t = tt
scaled_negative (inf false) t = absurd t
scaled_negative (fin true m e) t = round_signed binary32 true (m * up e * 65535) (down e * 1)
scaled_negative (fin false m e) t = absurd t

not_over : (t : Float) → T (negative t) → lt unit t ≡ false
unfolding lt
not_over nan t = absurd t
not_over (inf true) t = refl
not_over (inf false) t = absurd t
not_over (fin true m e) t = refl
not_over (fin false m e) t = absurd t

clamped_negative : (t : Float) → T (negative t) → rounded_u16 (mul binary32 (clamped t) most) ≡ 0
unfolding clamped
clamped_negative t n = rw (not_over t n) (go (lt t nought))
  where
    go : (b : Bool) → rounded_u16 (mul binary32 (cond b nought t) most) ≡ 0
    go true = nothing
    go false = to_zero_of (mul binary32 t most) (scaled_negative t n)

end : rounded_u16 (mul binary32 unit most) ≡ 65535
unfolding rounded_u16 mul
end = refl

module _ (extent : Float) (q r1 r2 e : ℕ) (ve : HasValue extent false e w) (wide : 128 * w ≤ e) (narrow : e ≤ 4096 * w) (l : q ≤ 65535)
    (one : Near (q * w) 65535 r1 h) (two : Near (r1 * e) w r2 (4096 * h)) (small : r2 ≤ e) where
  some_h : 0 < h
  some_h = pow_pos 125

  some_e : 0 < e
  some_e = lt_of_lt_of_le (lit< {m = 0} {n = 128 * w} tt) wide

  finish : (t : Float) (n : ℕ) → HasValue t false n w → Close n r1 (226 * h) → rounded_u16 (mul binary32 (clamped t) most) ≡ q
  finish t n v near = elim (clamps t n v) [
    | at_end g is ↦ ap (λ (x : Float). rounded_u16 (mul binary32 x most)) is ∙ end ∙ sym (last w h e refl some_h wide narrow q r1 n one near l g)
    | in_range g is ↦
        let p = product t n v g in
        ap (λ (x : Float). rounded_u16 (mul binary32 x most)) is ∙ rounded_value (mul binary32 t most) p.units w (pow_pos 149) p.value
        ∙ ap (λ (x : ℕ). min x 65535) (nearest_is w h e refl some_h wide narrow q r1 n one near p.units p.near) ∙ min-eq_left l
  ]

  returned : (d : Float) → Back d r2 → rounded_u16 (mul binary32 (clamped (div binary32 d extent)) most) ≡ q
  returned d (below_lo y is low) =
      clamped_negative (div binary32 d extent) (div_negative d extent e w some_e (rw is (round_signed binary32 true y w)) ve)
      ∙ sym (zeroth w h e refl some_h wide narrow q r1 r2 one two low)
  returned d (ahead y is close) =
      let d' = subst (Rounded false y 138) (sym is) (rounded false y 138 (lit≤ tt) (x_room w h e refl wide narrow r2 y small close)) in
      let t-is = div_at binary32 d extent false d'.units w e w (pow_pos 149) (pow_pos 149) some_e d'.value ve in
      let t = rounds_near false (d'.units * w) (e * w) 126 (mul-pos some_e (pow_pos 149)) (lit≤ tt) (t_room w h e refl wide narrow r2 y small close d'.units d'.near) in
      finish (div binary32 d extent) t.0 (subst (λ (x : Float). HasValue x false t.0 w) (sym t-is) t.1)
      (back w h e refl some_h wide narrow r1 r2 y d'.units t.0 two close d'.near (cancel (d'.units * w) e t.0 (2 * h) w (pow_pos 149) t.2))

-- ---- the two ways to r2: below the last short, and at it
abbrev InReach : Bool → ℕ → ℕ → Type 0
InReach false l e = l + e ≤ 2 ^ 163
InReach true l e = l ≤ 2 ^ 163

back_of : (lo r : Float) (s : Bool) (l k e : ℕ) → HasValue lo s l w → HasValue r false k w → k ≤ e → e ≤ 4096 * w → InReach s l e → Back (sub binary32 (add binary32 lo r) lo) k
back_of lo r false l k e v u g f room = from_positive lo r l k u v (wider l k e (2 ^ 163) g room)
back_of lo r true l k e v u g f room = from_negative lo r l k u v room (le_trans g (le_trans f (lit≤ tt)))

-- ---- on an axis whose numbers are known in units
module _ (lo extent : Float) (s : Bool) (l e : ℕ) (vl : HasValue lo s l w) (ve : HasValue extent false e w) (wide : 128 * w ≤ e) (narrow : e ≤ 4096 * w) (room : InReach s l e) where
  abbrev again : ℕ → ℕ
  again q = rounded_u16 (mul binary32 (clamped (div binary32 (sub binary32 (coordinate q lo extent) lo) extent)) most)

  before_last : (q : ℕ) → q < 65535 → again q ≡ q
  unfolding coordinate
  before_last q less =
      let n = part_near q less in
      let r1 = n.0 in
      let r1f = div binary32 (of_int binary32 (pos q)) most in
      let v1 = subst (λ (x : Float). HasValue x false r1 w) (sym (part_is q less)) n.1 in
      let is = mul_at binary32 r1f extent false r1 w e w (pow_pos 149) (pow_pos 149) v1 ve in
      let m = rounds_near false (r1 * e) (w * w) 137 (mul-pos (pow_pos 149) (pow_pos 149)) (lit≤ tt) (r2_room w h e refl wide narrow r1 (r1_room w h e refl wide narrow q r1 less n.2)) in
      let r2 = m.0 in
      let v2 = subst (λ (x : Float). HasValue x false r2 w) (sym is) m.1 in
      let two = cancel (r1 * e) w r2 (4096 * h) w (pow_pos 149) m.2 in
      let small = inside w h e refl (pow_pos 125) wide narrow q r1 r2 less n.2 two in
      returned extent q r1 r2 e ve wide narrow (le_of_lt less) n.2 two small
      (sub binary32 (add binary32 lo (mul binary32 r1f extent)) lo) (back_of lo (mul binary32 r1f extent) s l r2 e vl v2 small narrow room)

  -- at the last short r1 is 1, and r2 the extent itself
  at_last : HasValue (mul binary32 unit extent) false e w → again 65535 ≡ 65535
  unfolding coordinate
  at_last v2 =
      let r = mul binary32 (div binary32 (of_int binary32 (pos 65535)) most) extent in
      returned extent 65535 w e e ve wide narrow (le_refl 65535) (record { not_above = lit≤ tt; not_below = lit≤ tt }) (exact_two w e (4096 * h)) (le_refl e)
      (sub binary32 (add binary32 lo r) lo) (back_of lo r s l e e vl (subst (λ (x : Float). HasValue (mul binary32 x extent) false e w) (sym last_part) v2) (le_refl e) narrow room)

-- ---- the statement
rescaled : (x : Float) (s : Bool) (a b c d : ℕ) → 0 < c → a * d ≡ b * c → HasValue x s a c → HasValue x s b d
rescaled nan s a b c d p e v = v
rescaled (inf t) s a b c d p e v = v
rescaled (fin t m g) s a b c d p e v = (v.0, same_value a b c d (m * up g) (down g) p e v.1)

-- 1 times the extent is the extent
itself : (n : ℕ) (g : ℤ) → Within n g → (j : ℕ) → up g * w ≡ 2 ^ j * down g → n * 2 ^ j ≤ 4096 * w → HasValue (mul binary32 unit (fin false n g)) false (n * 2 ^ j) w
unfolding mul
itself n g i j u narrow =
    let a = 1 * (n * up g) in
    let c = 1 * down g in
    let p : 0 < c = omega (arith, down_pos g) in
    let e = as_one n (up g) w (2 ^ j) (down g) u in
    rescaled (round binary32 false a c) false a (n * 2 ^ j) c w p e (round_exact binary32 false a c n j p i.digits (lt_of_le_of_lt narrow (lit< tt)) e)

-- not small, so `short` divides
not_small : (n : ℕ) (g : ℤ) (e : ℕ) → HasValue (fin false n g) false e w → 128 * w ≤ e → lt (fin false n g) least ≡ false
not_small n g e v wide = go (lt (fin false n g) least) refl
  where
    go : (b : Bool) → lt (fin false n g) least ≡ b → b ≡ false
    go false p = refl
    go true p = absurd (not_tiny w e (pow_pos 149) wide (lt_true (fin false n g) least e w 1 (2 ^ 23) (pow_pos 149) (pow_pos 23) v (refl, refl) p))

room_of : (s : Bool) (m : ℕ) (g : ℤ) (n : ℕ) (d : ℤ) (l e : ℕ) → HasValue (fin s m g) s l w → HasValue (fin false n d) false e w
    → T (cond s (leb (m * up g) (16384 * down g)) (leb (m * up g * down d + n * up d * down g) (16384 * (down g * down d)))) → InReach s l e
room_of true m g n d l e vl ve t = at_most w (down g) (down_pos g) 16384 (m * up g) l vl.1 (leb→le (m * up g) (16384 * down g) t)
room_of false m g n d l e vl ve t =
    sum_at_most w (down g) (down_pos g) 16384 (m * up g) l (n * up d) e (down d) (down_pos d) vl.1 ve.1
    (leb→le (m * up g * down d + n * up d * down g) (16384 * (down g * down d)) t)

all_shorts : (q : ℕ) → q ≤ 65535 → (lo extent : Float) (s : Bool) (l e : ℕ) (vl : HasValue lo s l w) (ve : HasValue extent false e w) (wide : 128 * w ≤ e) (narrow : e ≤ 4096 * w) (room : InReach s l e)
    → HasValue (mul binary32 unit extent) false e w → again lo extent s l e vl ve wide narrow room q ≡ q
all_shorts q g lo extent s l e vl ve wide narrow room v = elim (eq-or-lt_of_le g) [
  | inl is ↦ subst (λ (x : ℕ). again lo extent s l e vl ve wide narrow room x ≡ x) (sym is) (at_last lo extent s l e vl ve wide narrow room v)
  | inr less ↦ before_last lo extent s l e vl ve wide narrow room q less
]

pub short_coordinate : (q : ℕ) (lo extent : Float) → q ≤ 65535 → T (fits binary32 lo) → T (fits binary32 extent) → T (returning lo extent) → short (coordinate q lo extent) lo extent ≡ q
unfolding short returning
short_coordinate q nan extent l fl fe b = absurd b
short_coordinate q (inf s) extent l fl fe b = absurd b
short_coordinate q (fin s m g) nan l fl fe b = absurd b
short_coordinate q (fin s m g) (inf t) l fl fe b = absurd b
short_coordinate q (fin s m g) (fin true n d) l fl fe b = absurd b
short_coordinate q (fin s m g) (fin false n d) l fl fe b =
    let il = scaled.within s m g fl in
    let ie = scaled.within false n d fe in
    let ul = scaled.units 149 g il.fine in
    let ue = scaled.units 149 d ie.fine in
    let e = n * 2 ^ ue.0 in
    let vl : HasValue (fin s m g) s (m * 2 ^ ul.0) w = (refl, in_units m (up g) w (2 ^ ul.0) (down g) ul.1) in
    let ve : HasValue (fin false n d) false e w = (refl, in_units n (up d) w (2 ^ ue.0) (down d) ue.1) in
    let one = leb (128 * down d) (n * up d) in
    let two = leb (n * up d) (4096 * down d) in
    let three = cond s (leb (m * up g) (16384 * down g)) (leb (m * up g * down d + n * up d * down g) (16384 * (down g * down d))) in
    let wide = at_least w (down d) (down_pos d) 128 (n * up d) e ve.1 (leb→le _ _ (and_l one two (and_l (one && two) three b))) in
    let narrow = at_most w (down d) (down_pos d) 4096 (n * up d) e ve.1 (leb→le _ _ (and_r one two (and_l (one && two) three b))) in
    let room = room_of s m g n d (m * 2 ^ ul.0) e vl ve (and_r (one && two) three b) in
    rw (not_small n d e ve wide) (sym (uncapped (div binary32 (sub binary32 (coordinate q (fin s m g) (fin false n d)) (fin s m g)) (fin false n d)) (div-fits binary32 _ _)) ∙ all_shorts q l (fin s m g) (fin false n d) s (m * 2 ^ ul.0) e vl ve wide narrow room (itself n d ie ue.0 ue.1 narrow))
