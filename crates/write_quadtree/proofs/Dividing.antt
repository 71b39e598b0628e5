-- One split down: what every recursion over the tree asks of the four subs, and what it makes of them. Assumes nothing.
use Prim.Native.Nat.{ℕ, suc, ◌+◌, ◌-◌, ◌*◌, ◌^◌, ◌≤◌, ◌<◌}
use mathlib.Core.Path.{◌≡◌, refl, ap, ◌∙◌}
use native.Mathlib.Nat.{pow-suc}
use native.Mathlib.Omega.{arith}
use Rattle.quarters.specs.declared.bounds.Aabb.{Aabb}
use Rattle.write_pages.specs.Sectors.{sub0, sub1, sub2, sub3}
use Rattle.write_quadtree.specs.Subtrees.{Numbered, subtree, divided}
use Rattle.write_quadtree.specs.declared.subtrees.Subtree.{Subtree}
use Rattle.write_quadtree.specs.declared.subtrees.Subtrees.{Subtrees}
use Rattle.write_quadtree.proofs.Widths.{leaves_wide}

pub down : (n : ℕ) → (n ≡ 0 → ⊥) → n ≡ suc (n - 1)
down n h = omega arith

pub four : (n : ℕ) → (n ≡ 0 → ⊥) → 4 ^ n ≡ 4 ^ (n - 1) * 4
four n h = ap (λ (m : ℕ). 4 ^ m) (down n h) ∙ pow-suc 4 (n - 1)

-- what a call asks where the measure is the depth, and was m
pub record Below (m : ℕ) (t : Subtree) : Type 0 where
  pub falls : t.depth < m
  pub numbered : Numbered t

-- a tree from its root on
pub root_numbered : (b : Aabb) (d : ℕ) → d ≤ 2 → Numbered (subtree b d 0)
root_numbered b d h = (h, omega (arith, (leaves_wide d h).0, (leaves_wide d h).1))

-- what is said of a depth, a first leaf and a box, of a subtree
abbrev pub on : {A : Type 0} → (ℕ → ℕ → Aabb → A) → Subtree → A
on f t = f t.depth t.leaf t.b

-- the first sub has the first leaf, and each other goes on where the one before it ends
pub subs_follow : (t : Subtree) {r : Subtrees} → r ≡ divided t
    → (r.s0.leaf ≡ t.leaf) × (r.s0.leaf + 4 ^ r.s0.depth ≡ r.s1.leaf) × (r.s1.leaf + 4 ^ r.s1.depth ≡ r.s2.leaf) × (r.s2.leaf + 4 ^ r.s2.depth ≡ r.s3.leaf)
subs_follow t e = rw e (refl, refl, omega arith, omega arith)

module _ (t : Subtree) (splits : t.depth ≡ 0 → ⊥) {r : Subtrees} (e : r ≡ divided t) where
  pub subs_below : {m : ℕ} → t.depth ≤ m → Numbered t → Below m r.s0 × Below m r.s1 × Below m r.s2 × Below m r.s3
  subs_below h n =
      let w = four t.depth splits in
      rw e (
        record { falls = omega arith; numbered = (omega arith, omega arith) },
        record { falls = omega arith; numbered = (omega arith, omega arith) },
        record { falls = omega arith; numbered = (omega arith, omega arith) },
        record { falls = omega arith; numbered = (omega arith, omega arith) },
      )

  -- what is made of the subs' where a box splits
  pub of_subs : {A : Type 0} (f : ℕ → ℕ → Aabb → A) (g : Aabb → A → A → A → A → A)
      → ((d k : ℕ) (b : Aabb) → f (suc d) k b ≡ g b (f d k (sub0 b)) (f d (k + 4 ^ d) (sub1 b)) (f d (k + 2 * 4 ^ d) (sub2 b)) (f d (k + 3 * 4 ^ d) (sub3 b)))
      → on f t ≡ g t.b (on f r.s0) (on f r.s1) (on f r.s2) (on f r.s3)
  of_subs f g node =
      rw e (ap (λ (n : ℕ). f n t.leaf t.b) (down t.depth splits) ∙ node (t.depth - 1) t.leaf t.b)
