-- Items that are stored where a test passes, one turn at a time. Assumes nothing.
use Prim.Native.Nat.{ℕ, suc, ◌+◌, ◌-◌, ◌*◌, ◌≤◌, ◌<◌}
use mathlib.Core.Path.{◌≡◌, refl, ap}
use mathlib.Core.Bool.{Bool, true, false, cond}
use mathlib.Core.List.{List, [], ◌∷◌, ◌++◌, append-nil}
use native.Mathlib.Nat.{mul-zero}
use native.Mathlib.Omega.{arith}
use lib.Dec.{eqb}
use lib.ListN.{length, get_or}
use Rattle.fields.specs.Bytes.{le_bytes, les, cat}
use Rattle.fields.specs.Put.{put}
use Rattle.fields.specs.Rows.{row_bytes}
use Rattle.fields.proofs.Bytes.{length_bytes}
use Rattle.fields.proofs.Puts.{put_nil, put_next}
use Rattle.fields.proofs.Rows.{length_rows}
use Rattle.math.specs.declared.vec3.Vec3.{Vec3 as Floats}
use Rattle.strip.specs.Cell.{NavPoint}
use Rattle.strip.specs.Reading.{items_at, point_at}
use Rattle.strip.specs.Rows.{points_at}
use Rattle.write_pages.specs.Sectors.{point_row, point_items}
use Rattle.write_leaf_counts.specs.Work.{picked_from}

-- f stores items of w bytes in a row, g one
module _ {A : Type 0} (w : ℕ) (f : List A → List ℕ) (g : A → List ℕ) (none : f [] ≡ []) (more : (x : A) (xs : List A) → f (x ∷ xs) ≡ g x ++ f xs)
    (wide : (x : A) → length (g x) ≡ w) where
  put_keep : (p : ℕ) (b : Bool) (x : A) (xs : List A) (out : List ℕ)
      → put (p + w * cond b 1 0) (f xs) (put p (f (cond b (x ∷ []) [])) out) ≡ put p (f (cond b (x ∷ xs) xs)) out
  put_keep p true x xs out =
      let e : w * 1 ≡ w = omega arith in
      rw (e, more x [], more x xs, none, append-nil (g x)) (put_next w p (g x) (f xs) out (wide x))
  put_keep p false x xs out = rw (none, put_nil p out) (ap (λ (n : ℕ). put n (f xs) out) (omega (arith, mul-zero w)))

pub put_id : (p : ℕ) (b : Bool) (x : ℕ) (xs out : List ℕ)
    → put (p + 2 * cond b 1 0) (les 2 xs) (put p (les 2 (cond b (x ∷ []) [])) out) ≡ put p (les 2 (cond b (x ∷ xs) xs)) out
unfolding les
put_id = put_keep 2 (les 2) (le_bytes 2) refl (λ x xs. refl) (length_bytes 2)

module _ (bb-min bb-size : Floats) where
  pub put_point : (p : ℕ) (b : Bool) (t : NavPoint) (ts : List NavPoint) (out : List ℕ)
      → put (p + 8 * cond b 1 0) (cat (point_items bb-min bb-size ts)) (put p (cat (point_items bb-min bb-size (cond b (t ∷ []) []))) out) ≡ put p (cat (point_items bb-min bb-size (cond b (t ∷ ts) ts))) out
  unfolding point_items cat
  put_point = put_keep 8 (λ (ts : List NavPoint). cat (point_items bb-min bb-size ts)) (λ (t : NavPoint). row_bytes (point_row bb-min bb-size t)) refl (λ t ts. refl) (λ t. length_rows (point_row bb-min bb-size t))

-- ---- the points with a leaf, i of them passed

module _ (numbers s : List ℕ) (k : ℕ) where
  pub points_turn : (at i n : ℕ) → i < n → picked_from numbers k i (points_at s at (n - i))
      ≡ cond (eqb (get_or numbers i 0) k) (point_at s at ∷ picked_from numbers k (i + 1) (points_at s (at + 4) (n - (i + 1)))) (picked_from numbers k (i + 1) (points_at s (at + 4) (n - (i + 1))))
  unfolding picked_from items_at
  points_turn at i n h = let e : n - i ≡ suc (n - (i + 1)) = omega arith in rw e

  pub points_end : (at i n : ℕ) → n ≤ i → picked_from numbers k i (points_at s at (n - i)) ≡ []
  unfolding picked_from items_at
  points_end at i n h = let e : n - i ≡ 0 = omega arith in rw e
