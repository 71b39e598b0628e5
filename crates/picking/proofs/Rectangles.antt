-- Which spots a rectangle contains: it has its left and lower sides and not its right and upper ones, so that two that share a side share no spot and leave none
-- out. By `Sides.turned` and `Sides.backwards` it may be drawn from any of its vertices on, either way round. Assumes nothing.
use Prim.Native.Nat.{ℕ, ◌+◌, ◌-◌, ◌*◌, ◌%◌, ◌≤◌, ◌<◌}
use mathlib.Core.Path.{◌≡◌, refl, sym, ap, ◌∙◌}
use mathlib.Core.Bool.{Bool, true, false, ◌&&◌, not, and-false, and_comm, or-false}
use native.Mathlib.Omega.{arith}
use native.Mathlib.Nat.{mul-le-mul_right, mul-lt-mul_of_pos_right, mul-add}
use lib.Dec.{eqb, leb, ltb}
use borrow.Author.Tests.{ltb-true, ltb-false, leb-true, leb-false, lt-ltb, le-ltb, le-leb, lt-leb}
use Rattle.quantise.proofs.Ops.{ltb_same}
use Rattle.strip.specs.Cell.{NavPoly, Head}
use Rattle.pick_contains.specs.declared.Spot.{Spot}
use Rattle.strip.specs.Tests.{one_if}
use Rattle.pick_contains.specs.Inside.{left_of, crossed, crossings, last_of, inside}
use Rattle.picking.specs.Picking.{contains}
use Rattle.picking.specs.Rectangles.{spot, rectangle, Halves, IsRectangle}
use Rattle.picking.proofs.Whole.{not_crossed}
use Rattle.picking.proofs.Sides.{either_way}

-- n is from a on and below b
abbrev between : ℕ → ℕ → ℕ → Bool
between a n b = leb a n && ltb n b

-- a factor above 0 changes no comparison
ltb_scaled : (x c h : ℕ) → 0 < h → ltb (x * h) (c * h) ≡ ltb x c
ltb_scaled x c h k = sym (ltb_same x c (x * h) (c * h) (λ l. mul-lt-mul_of_pos_right l k) (λ l. mul-le-mul_right h l))

-- from a on is not below a
leb_not : (a b : ℕ) → leb a b ≡ not (ltb b a)
leb_not a b = by (ltb b a) refl
  where
    by : (t : Bool) → ltb b a ≡ t → leb a b ≡ not t
    by true e = lt-leb a b (ltb-true b a e)
    by false e = le-leb a b (ltb-false b a e)

-- an upright side is crossed where the spot is from its lower end on and below its upper one, and left of it
upright : (s : Spot) (c b t : ℕ) → b ≤ t → crossed s (spot c b) (spot c t) ≡ (between b s.y t && ltb s.x c)
unfolding crossed left_of
upright s c b t h = by (leb b s.y) (ltb s.y t) refl refl
  where
    by : (p q : Bool) → leb b s.y ≡ p → ltb s.y t ≡ q → crossed s (spot c b) (spot c t) ≡ ((p && q) && ltb s.x c)
    by true true e f =
        let k = leb-true b s.y e in
        let m = ltb-true s.y t f in
        let w : c * (t - s.y) + c * (s.y - b) ≡ c * (t - b) = sym (mul-add c (t - s.y) (s.y - b)) ∙ ap (λ (n : ℕ). c * n) (omega arith) in
        rw (e, lt-leb t s.y m, w) (ltb_scaled s.x c (t - b) (omega arith))
    by true false e f = rw (e, le-leb t s.y (ltb-false s.y t f))
    by false q e f = let k = leb-false b s.y e in rw (e, lt-leb t s.y (omega arith))

-- a level side is never crossed
level : (s : Spot) (p q h : ℕ) → crossed s (spot p h) (spot q h) ≡ false
level s p q h = not_crossed s (spot p h) (spot q h) refl

-- whether an odd number is crossed of two upright sides: p and q say that the spot is left of the one, and of the other, further right, and w that its height is theirs
odd : (w p q : Bool) → (p ≡ true → q ≡ true) → eqb ((one_if (w && p) + (0 + (one_if (w && q) + 0))) % 2) 1 ≡ ((not p && q) && w)
odd false p q h = sym (and-false (not p && q))
odd true false false h = refl
odd true false true h = refl
odd true true false h = sym (h refl)
odd true true true h = refl

-- a rectangle contains exactly the spots with l ≤ x < r and b ≤ y < t
pub in_rectangle : (s : Spot) (l b r t : ℕ) → l ≤ r → b ≤ t
    → inside s (rectangle l b r t) ≡ ((leb l s.x && ltb s.x r) && (leb b s.y && ltb s.y t))
unfolding inside crossings last_of
in_rectangle s l b r t h k =
    rw (either_way s (spot l t) (spot l b), level s l r b, level s r l t, upright s l b t k, upright s r b t k, leb_not l s.x)
    (odd (between b s.y t) (ltb s.x l) (ltb s.x r) (λ e. lt-ltb s.x r (omega (arith, ltb-true s.x l e))))

module _ (l b r t : ℕ) where
  pub within : (x y : ℕ) → l ≤ x → x < r → b ≤ y → y < t → inside (spot x y) (rectangle l b r t) ≡ true
  within x y h i k j = rw (in_rectangle (spot x y) l b r t (omega arith) (omega arith), le-leb l x h, lt-ltb x r i, le-leb b y k, lt-ltb y t j)

  -- so it has its left and lower sides
  pub on_left : (y : ℕ) → l < r → b ≤ y → y < t → inside (spot l y) (rectangle l b r t) ≡ true
  on_left y h k j = within l y (omega arith) h k j

  pub on_lower : (x : ℕ) → l ≤ x → x < r → b < t → inside (spot x b) (rectangle l b r t) ≡ true
  on_lower x h i k = within x b h i (omega arith) k

  -- and not its right and upper ones
  pub on_right : (y : ℕ) → l ≤ r → b ≤ t → inside (spot r y) (rectangle l b r t) ≡ false
  on_right y h k = simp (in_rectangle (spot r y) l b r t h k, le-ltb r r (omega arith), and-false)

  pub on_upper : (x : ℕ) → l ≤ r → b ≤ t → inside (spot x t) (rectangle l b r t) ≡ false
  on_upper x h k = simp (in_rectangle (spot x t) l b r t h k, le-ltb t t (omega arith), and-false)

-- so it stays where a further test has to pass, put before the halves or behind them
halves_and : (c whole a b : Bool) → Halves whole a b → Halves (c && whole) (c && a) (c && b)
halves_and true whole a b h = h
halves_and false whole a b h = (refl, refl)

and_halves : (c whole a b : Bool) → Halves whole a b → Halves (whole && c) (a && c) (b && c)
and_halves c whole a b h = rw (and_comm whole c, and_comm a c, and_comm b c) (halves_and c whole a b h)

-- a range of numbers cut in two at m
halves : (l m r n : ℕ) → l ≤ m → m ≤ r → Halves (between l n r) (between l n m) (between m n r)
halves l m r n h k = by (ltb n m) refl
  where
    by : (t : Bool) → ltb n m ≡ t → Halves (between l n r) (between l n m) (between m n r)
    by true e =
        let i = ltb-true n m e in
        rw (e, lt-leb m n i, lt-ltb n r (omega arith)) (sym (or-false (leb l n && true)), and-false (leb l n && true))
    by false e = let i = ltb-false n m e in rw (e, le-leb m n i, le-leb l n (omega arith)) (refl, refl)

-- two rectangles that share a side share no spot and leave none out. They share an upright side, at m
pub side_by_side : (l m r b t : ℕ) → l ≤ m → m ≤ r → b ≤ t → (s : Spot)
    → Halves (inside s (rectangle l b r t)) (inside s (rectangle l b m t)) (inside s (rectangle m b r t))
side_by_side l m r b t h k i s =
    rw (in_rectangle s l b r t (omega arith) i, in_rectangle s l b m t h i, in_rectangle s m b r t k i)
    (and_halves (between b s.y t) (between l s.x r) (between l s.x m) (between m s.x r) (halves l m r s.x h k))

-- or a level one, at height m
pub one_above_the_other : (l r b m t : ℕ) → l ≤ r → b ≤ m → m ≤ t → (s : Spot)
    → Halves (inside s (rectangle l b r t)) (inside s (rectangle l b r m)) (inside s (rectangle l m r t))
one_above_the_other l r b m t i h k s =
    rw (in_rectangle s l b r t i (omega arith), in_rectangle s l b r m i h, in_rectangle s l m r t i k)
    (halves_and (between l s.x r) (between b s.y t) (between b s.y m) (between m s.y t) (halves b m t s.y h k))

-- of polygons whose vertices have these spots: what each contains, and two that share an upright side or a level one
module _ (h : Head) (s : Spot) where
  pub rectangle_contains : (p : NavPoly) (l b r t : ℕ) → IsRectangle h p l b r t → l ≤ r → b ≤ t
      → contains h s p ≡ ((leb l s.x && ltb s.x r) && (leb b s.y && ltb s.y t))
  rectangle_contains p l b r t e i k = rw e (in_rectangle s l b r t i k)

  module _ (whole p q : NavPoly) where
    pub neighbours : (l m r b t : ℕ) → IsRectangle h whole l b r t → IsRectangle h p l b m t → IsRectangle h q m b r t → l ≤ m → m ≤ r → b ≤ t
        → Halves (contains h s whole) (contains h s p) (contains h s q)
    neighbours l m r b t e f g i j k = rw (e, f, g) (side_by_side l m r b t i j k s)

    pub storeys : (l r b m t : ℕ) → IsRectangle h whole l b r t → IsRectangle h p l b r m → IsRectangle h q l m r t → l ≤ r → b ≤ m → m ≤ t
        → Halves (contains h s whole) (contains h s p) (contains h s q)
    storeys l r b m t e f g i j k = rw (e, f, g) (one_above_the_other l r b m t i j k s)
