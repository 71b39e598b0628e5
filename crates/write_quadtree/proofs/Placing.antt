-- The first of a box's leaves that a point is inside, four tests at a time. Assumes nothing.
use mathlib.Core.Path.{◌≡◌, refl, ap}
use mathlib.Core.Bool.{Bool, true, false, cond}
use mathlib.Core.List.{List, [], ◌∷◌, ◌++◌}
use Prim.Native.Nat.{ℕ, zero, suc, ◌+◌, ◌≤◌, ◌<◌}
use native.Mathlib.Omega.{arith}
use lib.ListN.{length}
use Rattle.math.specs.declared.vec3.Vec3.{Vec3}
use Rattle.quarters.specs.declared.bounds.Aabb.{Aabb}
use Rattle.write_pages.specs.Sectors.{leaves, leaf_of, inside}
use Rattle.write_quadtree.specs.Lines.{lines_of, ranges_of, first_of, leaves_of}

within_at : (t : Bool) (n m k : ℕ) → (n < k → m ≡ n) → cond t zero (suc n) < suc k → cond t zero (suc m) ≡ cond t zero (suc n)
within_at true n m k f h = refl
within_at false n m k f h = ap suc (f (omega arith))

past_at : (t : Bool) (n m k j : ℕ) → (k ≤ n → m ≡ k + j) → suc k ≤ cond t zero (suc n) → cond t zero (suc m) ≡ suc k + j
past_at true n m k j f h = absurd (omega arith)
past_at false n m k j f h = let e = f (omega arith) in omega arith

-- in the first list, or past it
within : (xs ys : List Bool) → first_of xs < length xs → first_of (xs ++ ys) ≡ first_of xs
unfolding first_of
within [] ys h = absurd (omega arith)
within (x ∷ xs) ys h = within_at x (first_of xs) (first_of (xs ++ ys)) (length xs) (λ g. within xs ys g) h

past : (xs ys : List Bool) → length xs ≤ first_of xs → first_of (xs ++ ys) ≡ length xs + first_of ys
unfolding first_of
past [] ys h = omega arith
past (x ∷ xs) ys h = past_at x (first_of xs) (first_of (xs ++ ys)) (length xs) (first_of ys) (λ g. past xs ys g) h

-- the same of answers
module _ (xs ys : List Bool) {n : ℕ} (e : n ≡ first_of xs) where
  pub first_within : n < length xs → n ≡ first_of (xs ++ ys)
  first_within h = let s = within xs ys (omega arith) in omega arith

  pub first_past : length xs ≤ n → {m r : ℕ} → m ≡ first_of ys → r ≡ length xs + m → r ≡ first_of (xs ++ ys)
  first_past h f g = let s = past xs ys (omega arith) in omega arith

-- the leaves are where the sides cross
pub leaf_crossed : (b : Aabb) (p : Vec3) → leaf_of (leaves 2 b) p ≡ first_of (leaves_of (ranges_of (lines_of b).x p.x) (ranges_of (lines_of b).y p.y))
unfolding leaves leaf_of inside first_of
leaf_crossed b p = refl
