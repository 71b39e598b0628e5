-- What a finite box says of each of its vectors and words.
use Prim.Native.Nat.{ℕ}
use mathlib.Core.Path.{◌≡◌, sym, ◌∙◌}
use mathlib.Core.Bool.{Bool, true, false, not, ◌&&◌, and-eq-true_iff}
use Rattle.strip.specs.Cell.{Vec3, Head}
use Rattle.strip.specs.Box.{finite_bits, finite_vec, finite_box}
pub use Rattle.strip.specs.FiniteBox.{FiniteVec, FiniteBox}

vec_finite : (v : Vec3) → finite_vec v ≡ true → FiniteVec v
vec_finite v e =
    let (f, g) = (and-eq-true_iff (finite_bits v.x) (finite_bits v.y && finite_bits v.z)).0 e in
    let (h, i) = (and-eq-true_iff (finite_bits v.y) (finite_bits v.z)).0 g in
    record { x = f; y = h; z = i }

pub box_finite : (h : Head) → finite_box h ≡ true → FiniteBox h
unfolding finite_box
box_finite h e =
    let (f, g) = (and-eq-true_iff (finite_vec h.bb_min) (finite_vec h.bb_max && finite_vec h.bb_size)).0 e in
    let (i, j) = (and-eq-true_iff (finite_vec h.bb_max) (finite_vec h.bb_size)).0 g in
    record { bb_min = vec_finite h.bb_min f; bb_max = vec_finite h.bb_max i; bb_size = vec_finite h.bb_size j }

-- a test by what it answered
pub failed : {x a : Bool} → x ≡ a → not x ≡ true → a ≡ false
failed {x} p e = by x p e
  where
    by : (t : Bool) {a : Bool} → t ≡ a → not t ≡ true → a ≡ false
    by false q f = sym q
    by true q f = sym q ∙ sym f

pub passed : {x a : Bool} → x ≡ a → not x ≡ false → a ≡ true
passed {x} p e = by x p e
  where
    by : (t : Bool) {a : Bool} → t ≡ a → not t ≡ false → a ≡ true
    by true q f = sym q
    by false q f = sym q ∙ sym f
