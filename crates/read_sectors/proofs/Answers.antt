-- What `read_sector_tree` says, by the answer of the walk.
use Prim.Native.Nat.{ℕ, ◌+◌, ◌-◌}
use native.Mathlib.Nat.{zero-add}
use native.Mathlib.Omega.{arith}
use mathlib.Core.Path.{◌≡◌, refl, sym, ap, ◌∙◌}
use mathlib.Core.Bool.{Bool, true, false, cond}
use mathlib.Core.List.{List, [], ◌∷◌}
use lib.Dec.{eqb}
use lib.ListN.{length}
use borrow.Author.Tests.{eq-eqb, ne_eqb}
use Rattle.strip.specs.declared.Reason.{Reason}
use Rattle.strip.specs.Reasons.{reason_number}
use Rattle.strip.specs.Outcome.{Paper, shown, refusal, values}
use Rattle.strip.specs.Outcome as Outcome
use Rattle.read_sectors.specs.declared.Tree.{Tree}
use Rattle.read_sectors.specs.declared.Walk.{Walk}
use Rattle.std.specs.Prelude.{Ok, Err}
use Rattle.read_sectors.specs.Walk.{Walked, walk}
use Rattle.read_sectors.specs.Walk.Walked.{done, refused}
use Rattle.read_sectors.specs.Answer.{outcome_of, tree_outcome, walk_answer, WalkCounted}

was_refused : (w : Walked) {n : ℕ} → refusal n 0 ≡ walk_answer 0 w → w ≡ refused n
was_refused (done l ps) h = let z : ◌≡◌ {A = ℕ} 0 1 = cc in absurd (omega arith)
was_refused (refused y) h = cc

was_done : (w : Walked) (to : Walk) → values to ≡ walk_answer 0 w → (ps : List (List ℕ)) × (w ≡ done to.left ps) × (length ps ≡ to.points)
was_done (done k ps) to h =
    let same : record { left = k; points = 0 + length ps } ≡ to = cc in
    (ps, ap (λ (s : Walk). done s.left ps) same, sym (zero-add (length ps)) ∙ ap (λ (s : Walk). s.points) same)
was_done (refused y) to h = let z : ◌≡◌ {A = ℕ} 0 1 = cc in absurd (omega arith)

module _ (system graphics : List ℕ) (root : ℕ) where
  pub says_null : root ≡ 0 → refusal 31 0 ≡ shown (tree_outcome system graphics root)
  unfolding tree_outcome
  says_null z = rw (eq-eqb root 0 z)

  module _ (some : root ≡ 0 → ⊥) {start : Walk} (es : start ≡ record { left = 4096; points = 0 }) where
    pub says_refused : {e : Reason} → WalkCounted (walk system graphics start.left (root ∷ [])) start (Err e) → refusal (reason_number e) 0 ≡ shown (tree_outcome system graphics root)
    unfolding tree_outcome
    says_refused k = rw (ne_eqb root 0 some, was_refused (walk system graphics 4096 (root ∷ [])) (rw es at k).is)

    pub says_tree : {to : Walk} → WalkCounted (walk system graphics start.left (root ∷ [])) start (Ok to) → values (record { sectors = 4096 - to.left; points = to.points }) ≡ shown (tree_outcome system graphics root)
    unfolding tree_outcome
    says_tree {to} k =
        let (ps, a, b) = was_done (walk system graphics 4096 (root ∷ [])) to (rw es at k).is in
        rw (ne_eqb root 0 some, a, b)

  -- ---- for a caller: at a root that isn't 0 the walk decides, and an accepted tree is one that `put_tree_points` takes

  pub by_walk : (root ≡ 0 → ⊥) → tree_outcome system graphics root ≡ outcome_of (walk system graphics 4096 (root ∷ []))
  unfolding tree_outcome
  by_walk some = rw (ne_eqb root 0 some)

  -- the walk behind an accepted tree, with its points
  pub record Accepted (t : Tree) : Type 0 where
    pub left : ℕ
    pub points : List (List ℕ)
    pub is : walk system graphics 4096 (root ∷ []) ≡ done left points
    pub sectors_are : t.sectors ≡ 4096 - left
    pub points_are : t.points ≡ length points

  accepted_by : (w : Walked) (b : Bool) {t : Tree} → walk system graphics 4096 (root ∷ []) ≡ w → values t ≡ shown (cond b (Outcome.refused 31 0) (outcome_of w)) → Accepted t
  accepted_by w true v e = let z : ◌≡◌ {A = ℕ} 0 1 = cc in absurd (omega arith)
  accepted_by (refused x) false v e = let z : ◌≡◌ {A = ℕ} 0 1 = cc in absurd (omega arith)
  accepted_by (done l ps) false {t} v e =
      let i : t ≡ record { sectors = 4096 - l; points = length ps } = cc in
      record { left = l; points = ps; is = v; sectors_are = ap (λ (k : Tree). k.sectors) i; points_are = ap (λ (k : Tree). k.points) i }

  pub accepted : {t : Tree} → values t ≡ shown (tree_outcome system graphics root) → Accepted t
  unfolding tree_outcome
  accepted e = accepted_by (walk system graphics 4096 (root ∷ [])) (eqb root 0) refl e
