-- Polygons walked in two parts, and the table of places turn by turn. Assumes nothing.
use Prim.Native.Nat.{ℕ, zero, suc, ◌+◌, ◌-◌, ◌*◌, ◌/◌, ◌%◌, ◌≤◌, ◌<◌, min}
use mathlib.Core.Path.{◌≡◌, refl, ap, ◌∙◌}
use mathlib.Core.List.{List}
use native.Mathlib.Omega.{arith}
use native.Mathlib.Numerals.{add-one}
use native.Mathlib.Nat.{zero-add, suc-add, suc-mul, mul_comm, lt_of_mul-lt-mul_right, div-add-mod', mod-lt, div-lt_iff_lt-mul}
use lib.ListN.{length, get_or, set}
use lib.Seq.{get_or-set_same, get_or-set_other}
use borrow.Author.Count.{below_more}
use Rattle.std.specs.Int.{div_ceil}
use Rattle.std.proofs.lemmas.Grind.{div_ceil_times}
use Rattle.std.proofs.Math.Nat.{mul-le-mul_right}
use Rattle.strip.specs.Reading.{poly_at}
use Rattle.strip.specs.Rows.{after, after_polygons}
use Rattle.strip.proofs.Steps.{parts, none_left, after_ge}
use Rattle.reach_places.specs.Places.{Places}

-- a walk goes on where another ends
pub after_more : (next : ℕ → ℕ) (a b at : ℕ) → after next (after next at a) b ≡ after next at (a + b)
unfolding after
after_more next zero b at = rw (zero-add b)
after_more next (suc a) b at = rw (suc-add a b) (after_more next a b (next at))

-- a shorter walk ends before a longer one
pub after_within : (s : List ℕ) (at a n : ℕ) → a ≤ n → after_polygons s at a ≤ after_polygons s at n
after_within s at a n h =
    let whole : a + (n - a) ≡ n = omega arith in
    omega (arith, after_ge (n - a) s (after_polygons s at a), after_more (λ x. (poly_at s x).next) a (n - a) at, ap (after_polygons s at) whole)

-- a polygon has some words
pub after_long : (n : ℕ) (s : List ℕ) (at : ℕ) → at + n ≤ after_polygons s at n
unfolding after
after_long zero s at = omega arith
after_long (suc n) s at = omega (arith, parts s at (poly_at s at) refl, after_long n s (poly_at s at).next)

pub after_done : (s : List ℕ) (at i n : ℕ) → n ≤ i → after_polygons s at (n - i) ≡ at
unfolding after
after_done s at i n h = rw (none_left i n h)

-- the table of n polygons after k turns
pub record Filling (s : List ℕ) (n stride : ℕ) (places : List ℕ) (at k : ℕ) : Type 0 where
  pub place : at ≡ after_polygons s 14 (min (k * stride) n)
  pub each : (j : ℕ) → j < k → j * stride < n → get_or places j 0 ≡ after_polygons s 14 (j * stride)

pub stride_enough : (n room : ℕ) → 1 ≤ room → n ≤ (n / room + 1) * room
stride_enough n room h =
    omega (arith, div-add-mod' n room, mod-lt n {m = room} h, suc-mul (n / room) room, ap (λ x. x * room) (add-one (n / room)))

-- turns are as many as there are entries with a polygon
module _ (n stride k turns : ℕ) (o : 1 ≤ stride) (e : turns ≡ div_ceil n stride) where
  pub turn_starts : k < turns → k * stride < n
  turn_starts h =
      let more : suc k * stride ≤ div_ceil n stride * stride = mul-le-mul_right stride (omega arith) in
      omega (arith, (div_ceil_times n stride o).1)

  pub turns_end : turns ≤ k → n ≤ k * stride
  turns_end h =
      let more : div_ceil n stride * stride ≤ k * stride = mul-le-mul_right stride (omega arith) in
      omega (arith, (div_ceil_times n stride o).0)

module _ (s : List ℕ) (n stride : ℕ) where
  pub filling_start : (places : List ℕ) → Filling s n stride places 14 0
  unfolding after
  filling_start places =
      let none : min (0 * stride) n ≡ 0 = omega arith in
      record { place = rw none; each = λ j h. absurd (omega arith) }

  module _ (places : List ℕ) (at k : ℕ) (f : Filling s n stride places at k) (h : k * stride < n) where
    pub filling_index : (room : ℕ) → n ≤ stride * room → k < room
    filling_index room e = lt_of_mul-lt-mul_right stride {m = k} {n = room} (omega (arith, mul_comm stride room))

    pub filling_place : at ≡ after_polygons s 14 (k * stride)
    filling_place =
        let here : min (k * stride) n ≡ k * stride = omega arith in
        f.place ∙ rw here

    pub filling_turn : (at' : ℕ) → k < length places → at' ≡ after_polygons s at (min stride (n - k * stride)) → Filling s n stride (set places k at) at' (k + 1)
    filling_turn at' l a =
        let step = min stride (n - k * stride) in
        let next : k * stride + step ≡ min ((k + 1) * stride) n = omega arith in
        record {
          place = a ∙ ap (λ x. after_polygons s x step) filling_place ∙ after_more (λ x. (poly_at s x).next) (k * stride) step 14 ∙ ap (after_polygons s 14) next;
          each = below_more (λ j. j * stride < n → get_or (set places k at) j 0 ≡ after_polygons s 14 (j * stride)) k
              (λ j b. λ w. get_or-set_other places k j at 0 (λ e. omega arith) ∙ f.each j b w)
              (λ w. get_or-set_same places k at 0 l ∙ filling_place);
        }

  pub filling_end : (places : List ℕ) (at k room : ℕ) → Filling s n stride places at k → n ≤ k * stride → 1 ≤ stride → room ≡ length places → n ≤ stride * room
      → after_polygons s 14 n ≤ length s → Places s n stride places
  filling_end places at k room f h o l e i =
      record {
        some = o;
        enough = rw (← l) e;
        inside = i;
        each = λ j w. f.each j (lt_of_mul-lt-mul_right stride {m = j} {n = k} (omega arith)) w;
      }

-- the place of a polygon from the table on
module _ (s : List ℕ) (n stride : ℕ) (places : List ℕ) (t : Places s n stride places) (i : ℕ) (h : i < n) where
  pub row_start : i / stride * stride < n
  row_start = omega (arith, div-add-mod' i stride)

  pub row_index : i / stride < length places
  row_index = (div-lt_iff_lt-mul {k = stride} {x = i} {y = length places} (omega (arith, t.some))).1 (omega (arith, t.enough, mul_comm stride (length places)))

  pub row_walk : after_polygons s (get_or places (i / stride) 0) (i % stride) ≡ after_polygons s 14 i
  row_walk =
      ap (λ x. after_polygons s x (i % stride)) (t.each (i / stride) row_start) ∙ after_more (λ x. (poly_at s x).next) (i / stride * stride) (i % stride) 14
      ∙ ap (after_polygons s 14) (div-add-mod' i stride)

  pub row_inside : after_polygons s (get_or places (i / stride) 0) (i % stride) ≤ length s
  row_inside = omega (arith, row_walk, after_within s 14 i n (omega arith), t.inside)

  -- with a place for each there is no walk
  module _ (e : stride ≡ 1) where
    each_start : i * stride < n
    each_start = rw e (omega arith)

    pub each_index : i < length places
    each_index = omega (arith, t.enough, ap (λ x. x * length places) e)

    pub each_place : get_or places i 0 ≡ after_polygons s 14 i
    each_place = t.each i each_start ∙ ap (after_polygons s 14) (ap (λ x. i * x) e ∙ omega arith)
