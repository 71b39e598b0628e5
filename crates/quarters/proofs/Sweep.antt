-- The laws of `specs/Bounds.antt`: how a loop takes vertices together, one law over axis and side, and that a quarter side of the result is that of the fold, whichever zeros were picked. Assumes nothing.
use Rattle.std.proofs.Common.{◌≡◌, ℕ, suc, ◌+◌, ◌-◌, ◌*◌, ◌<◌, ◌≤◌, Bool, true, false, T, List, [], ◌∷◌, length, get_or, pos, negsuc, sym, refl, ap, ◌∙◌, subst, arith}
use native.Mathlib.Nat.{sub-zero}
use lib.Ieee.{Float, nan, binary32, of_bits, fits, lt, is_nan}
use lib.Ieee.Bits.{of_bits-fits}
use Rattle.math.specs.MinMax.{chosen, lesser, greater}
use Rattle.math.specs.Picked.{Picked, IsMin, IsMax, plain}
use Rattle.math.specs.declared.vec3.Vec3.{Vec3}
use Rattle.math.specs.Floats.{floats_at}
use Rattle.math.proofs.Order.{Order, less, more}
use Rattle.math.proofs.MinMax.{picked_fits, agree_first, first_plain}
use Rattle.quarters.specs.Quarter.{side, quarter_floor, quarter_ceil, quarter_box}
use Rattle.quarters.specs.Bounds.{greatest, lowest, fold, least_side, greatest_side}
use Rattle.quarters.specs.Bounding.{every_third, held, Run, done, turn, Bounding, quarter_bounds}
use Rattle.quarters.specs.declared.bounds.Aabb.{Aabb}
use Rattle.quarters.proofs.Quarters.{side_plain}

-- ---- where all vertices are there, none is left out
pub held_all : (s : List ℕ) (at n : ℕ) → at + 3 * n ≤ length s → held s at n ≡ n
held_all s at n h = omega arith

-- ---- the loop
thirds_turn : (s : List ℕ) (p i n : ℕ) → i < n → every_third s p (n - i) ≡ get_or s p 0 ∷ every_third s (p + 3) (n - (i + 1))
unfolding every_third
thirds_turn s p i n h =
    let more : n - i ≡ suc (n - (i + 1)) = omega arith in
    ap (every_third s p) more

thirds_end : (s : List ℕ) (p i n : ℕ) → n ≤ i → every_third s p (n - i) ≡ []
unfolding every_third
thirds_end s p i n h =
    let none : n - i ≡ 0 = omega arith in
    ap (every_third s p) none

module _ (step : Float → Float → Float → Type 0) (start : Float) (whole : List ℕ) (s : List ℕ) where
  -- what is left, taken together from a on, makes the whole
  abbrev Left : Float → ℕ → ℕ → Type 0
  Left a p k = (r : Float) → Run step a (every_third s p k) r → Run step start whole r

  left_turn : (a x b : Float) (p p' i n : ℕ) → i < n → p' ≡ p + 3 → Left a p (n - i) → x ≡ of_bits binary32 (get_or s p 0) → step a x b → Left b p' (n - (i + 1))
  left_turn a x b p p' i n h e rest is one r run =
      rest r
      (subst (λ (l : List ℕ). Run step a l r) (sym (thirds_turn s p i n h))
      (turn (subst (λ (y : Float). step a y b) is one) (subst (λ (q : ℕ). Run step b (every_third s q (n - (i + 1))) r) e run)))

  left_end : (a : Float) (p i n : ℕ) → n ≤ i → Left a p (n - i) → Run step start whole a
  left_end a p i n h rest = rest a (subst (λ (l : List ℕ). Run step a l a) (sym (thirds_end s p i n h)) done)

left_begin : (step : Float → Float → Float → Type 0) (start a : Float) (s : List ℕ) (p p' n : ℕ) → p' ≡ p → a ≡ start → Left step start (every_third s p n) s a p' (n - 0)
left_begin step start a s p p' n q e r run =
    subst (λ (x : Float). Run step x (every_third s p n) r) e (subst (λ (o : ℕ). Run step a (every_third s o n) r) q (rw sub-zero at run))

-- before vertex i of n
pub record Swept (s : List ℕ) (at n : ℕ) (min max : Vec3) (i : ℕ) : Type 0 where
  pub min_x : Left IsMin greatest (every_third s at n) s min.x (at + 3 * i) (n - i)
  pub min_y : Left IsMin greatest (every_third s (at + 1) n) s min.y (at + 3 * i + 1) (n - i)
  pub min_z : Left IsMin greatest (every_third s (at + 2) n) s min.z (at + 3 * i + 2) (n - i)
  pub max_x : Left IsMax lowest (every_third s at n) s max.x (at + 3 * i) (n - i)
  pub max_y : Left IsMax lowest (every_third s (at + 1) n) s max.y (at + 3 * i + 1) (n - i)
  pub max_z : Left IsMax lowest (every_third s (at + 2) n) s max.z (at + 3 * i + 2) (n - i)

-- all three coordinates are x
abbrev pub Each : Float → Vec3 → Type 0
Each x v = (v.x ≡ x) × ((v.y ≡ x) × (v.z ≡ x))

module _ (s : List ℕ) (at n : ℕ) where
  pub swept_begin : (min max : Vec3) → Each greatest min → Each lowest max → Swept s at n min max 0
  swept_begin min max e d = record {
    min_x = left_begin IsMin greatest min.x s at _ n (omega arith) e.0;
    min_y = left_begin IsMin greatest min.y s (at + 1) _ n (omega arith) e.1.0;
    min_z = left_begin IsMin greatest min.z s (at + 2) _ n (omega arith) e.1.1;
    max_x = left_begin IsMax lowest max.x s at _ n (omega arith) d.0;
    max_y = left_begin IsMax lowest max.y s (at + 1) _ n (omega arith) d.1.0;
    max_z = left_begin IsMax lowest max.z s (at + 2) _ n (omega arith) d.1.1;
  }

  module _ (min max : Vec3) (i : ℕ) (g : Swept s at n min max i) where
    pub swept_turn : (v min' max' : Vec3) → i < n
        → v ≡ floats_at s (at + 3 * i)
        → IsMin min.x v.x min'.x × (IsMin min.y v.y min'.y × IsMin min.z v.z min'.z)
        → IsMax max.x v.x max'.x × (IsMax max.y v.y max'.y × IsMax max.z v.z max'.z)
        → Swept s at n min' max' (i + 1)
    swept_turn v min' max' h e l m =
        let ex = ap (λ (u : Vec3). u.x) e in
        let ey = ap (λ (u : Vec3). u.y) e in
        let ez = ap (λ (u : Vec3). u.z) e in
        record {
          min_x = left_turn IsMin greatest _ s _ v.x _ _ _ i n h (omega arith) g.min_x ex l.0;
          min_y = left_turn IsMin greatest _ s _ v.y _ _ _ i n h (omega arith) g.min_y ey l.1.0;
          min_z = left_turn IsMin greatest _ s _ v.z _ _ _ i n h (omega arith) g.min_z ez l.1.1;
          max_x = left_turn IsMax lowest _ s _ v.x _ _ _ i n h (omega arith) g.max_x ex m.0;
          max_y = left_turn IsMax lowest _ s _ v.y _ _ _ i n h (omega arith) g.max_y ey m.1.0;
          max_z = left_turn IsMax lowest _ s _ v.z _ _ _ i n h (omega arith) g.max_z ez m.1.1;
        }

    pub swept_end : (r : Aabb) → r.min ≡ min → r.max ≡ max → n ≤ i → Bounding s at n r
    swept_end r e d h = rw (e, d) (record {
      min_x = left_end IsMin greatest _ s min.x _ i n h g.min_x;
      min_y = left_end IsMin greatest _ s min.y _ i n h g.min_y;
      min_z = left_end IsMin greatest _ s min.z _ i n h g.min_z;
      max_x = left_end IsMax lowest _ s max.x _ i n h g.max_x;
      max_y = left_end IsMax lowest _ s max.y _ i n h g.max_y;
      max_z = left_end IsMax lowest _ s max.z _ i n h g.max_z;
    })

-- ---- a quarter side does not see which zeros were picked
pub side_same : (ceil : Bool) (r s : Float) → plain r ≡ plain s → side ceil r ≡ side ceil s
side_same ceil r s p = sym (side_plain ceil r) ∙ ap (side ceil) p ∙ side_plain ceil s

module _ {before under : Float → Float → Bool} (o : Order before under) where
  fold_plain : (a b : Float) (ws : List ℕ) → plain a ≡ plain b → plain (fold (chosen before) a ws) ≡ plain (fold (chosen before) b ws)
  unfolding fold
  fold_plain a b [] e = e
  fold_plain a b (w ∷ ws) e =
      let x = of_bits binary32 w in
      fold_plain (chosen before a x) (chosen before b x) ws (sym (first_plain o a x) ∙ ap (λ (y : Float). plain (chosen before y x)) e ∙ first_plain o b x)

  run_fold : {a r : Float} {ws : List ℕ} → T (fits binary32 a) → Run (Picked under) a ws r → plain r ≡ plain (fold (chosen before) a ws)
  unfolding fold
  run_fold p done = refl
  run_fold p (turn {a} {b} {r} {w} {ws} one run) =
      let x = of_bits binary32 w in
      let q = of_bits-fits binary32 w in
      run_fold (picked_fits o a x binary32 p q b one) run ∙ fold_plain b (chosen before a x) ws (agree_first o a x binary32 p q b one)

pub least_side_lem : {r : Float} {ws : List ℕ} → Run IsMin greatest ws r → quarter_floor r ≡ least_side ws
unfolding fits lesser
least_side_lem {r} {ws} run = side_same false r (fold lesser greatest ws) (run_fold less tt run)

pub greatest_side_lem : {r : Float} {ws : List ℕ} → Run IsMax lowest ws r → quarter_ceil r ≡ greatest_side ws
unfolding fits greater
greatest_side_lem {r} {ws} run = side_same true r (fold greater lowest ws) (run_fold more tt run)

pub quarter_bounds_lem : (s : List ℕ) (at n : ℕ) (r : Aabb) → Bounding s at n r → quarter_box r.min r.max ≡ quarter_bounds s at n
quarter_bounds_lem s at n r g =
    rw (least_side_lem g.min_x, least_side_lem g.min_y, least_side_lem g.min_z, greatest_side_lem g.max_x, greatest_side_lem g.max_y, greatest_side_lem g.max_z)

-- ---- an axis of NaN only
abbrev pub NanOnly : List ℕ → Type 0
NanOnly [] = Unit {0}
NanOnly (w ∷ ws) = (of_bits binary32 w ≡ nan) × NanOnly ws

module _ (pick : Float → Float → Float) (a : Float) (stays : pick a nan ≡ a) where
  nan_fold : (ws : List ℕ) → NanOnly ws → fold pick a ws ≡ a
  unfolding fold
  nan_fold [] n = refl
  nan_fold (w ∷ ws) n = ap (λ (x : Float). fold pick (pick a x) ws) n.0 ∙ ap (λ (x : Float). fold pick x ws) stays ∙ nan_fold ws n.1

pub nan_sides : (ws : List ℕ) → NanOnly ws → (least_side ws ≡ pos 32767) × (greatest_side ws ≡ negsuc 32767)
unfolding side lesser greater lt is_nan
nan_sides ws n = (ap quarter_floor (nan_fold lesser greatest refl ws n), ap quarter_ceil (nan_fold greater lowest refl ws n))
