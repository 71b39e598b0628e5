-- What the answers say. Definitions only.
use Rattle.strip.specs.Reasons.{reason_number}
use Rattle.strip.specs.declared.Refusal.{Refusal}
use Rattle.std.specs.Prelude.{ℕ, ◌+◌, ◌-◌, ◌*◌, ◌≤◌, ◌≡◌, Bool, true, false, cond, List, [], ◌∷◌, eqb, length, Result, Ok, Err}
use Rattle.strip.specs.declared.Reason.{Reason}
use Rattle.strip.specs.Outcome.{Outcome, Paper, refusal, values}
use Rattle.read_sectors.specs.declared.Tree.{Tree}
use Rattle.read_sectors.specs.declared.Walk.{Walk}
use Rattle.read_sectors.specs.Walk.{Walked, walk}
use Rattle.read_sectors.specs.Walk.Walked.{done, refused}

-- what `read_sector_tree` has to decide:
-- the sectors visited, of 4,096, and the points; refusals of a walk have the place 0
abbrev pub outcome_of : Walked → Outcome Tree
outcome_of (done l ps) = Outcome.done (record { sectors = 4096 - l; points = length ps }) []
outcome_of (refused number) = Outcome.refused number 0

-- 31 root 0; otherwise by the walk of at most 4,096 sectors
unfoldable pub tree_outcome : (system graphics : List ℕ) → ℕ → Outcome Tree
tree_outcome system graphics root = cond (eqb root 0) (Outcome.refused 31 0) (outcome_of (walk system graphics 4096 (root ∷ [])))

-- 4,096 sectors have at most 65,535 points each
abbrev pub Small : (Result Tree Refusal) → Type 0
Small (Ok t) = t.points ≤ 65535 * 4096
Small (Err r) = Unit {0}

-- what an answer of this crate's own says: a reason has the place 0
abbrev pub reason_paper : {A : Type 0} → Result A Reason → Paper A
reason_paper (Ok a) = values a
reason_paper (Err reason) = refusal (reason_number reason) 0

-- `visit_sector`, `visit_subs`: what a walk has to say, where so many points were counted before it: the visits left and the points counted so far
abbrev pub walk_answer : ℕ → Walked → Paper Walk
walk_answer points (done l ps) = values (record { left = l; points = points + length ps })
walk_answer points (refused number) = refusal number 0

-- visits are only spent, and each counts at most 65,535 points
abbrev pub Within : Walk → Result Walk Reason → Type 0
Within from (Ok to) = (to.left ≤ from.left) × (to.points + 65535 * to.left ≤ from.points + 65535 * from.left)
Within from (Err reason) = Unit {0}

pub record WalkCounted (w : Walked) (from : Walk) (r : Result Walk Reason) : Type 0 where
  pub is : reason_paper r ≡ walk_answer from.points w
  pub within : Within from r

-- `find_points`: what a sector's data and points have to say: how many points there are, or 34
abbrev pub found_of : Bool → List (List ℕ) → Paper ℕ
found_of false ps = refusal 34 0
found_of true ps = values (length ps)

abbrev pub Few : Result ℕ Reason → Type 0
Few (Ok n) = n ≤ 65535
Few (Err reason) = Unit {0}
