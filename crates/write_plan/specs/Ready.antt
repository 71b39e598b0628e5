-- What a plan without a refusal hands to whoever fills the pages: the strip's cell, that it is accepted, and that work and decision hold what its
-- pages need. Definitions only.
use Rattle.std.specs.Prelude.{ℕ, ◌*◌, ◌≤◌, ◌≡◌, List, length}
use Rattle.strip.specs.Reading.{head_at}
use Rattle.strip.specs.Rows.{polygons_at}
use Rattle.strip.specs.Scan.{ok, scan}
use Rattle.strip.specs.Laid.{Whole, cell_at}
use Rattle.write_pages.specs.Accepted.{Accepted}
use Rattle.write_decide.specs.Decide.{Tabled}
use Rattle.write_decide.specs.declared.Decision.{Decision}
use Rattle.write_plan.specs.Plan.{WorkHeld}

-- of the strip s, the words of work w, and the decision d
pub record Ready (s w : List ℕ) (d : Decision) : Type 0 where
  pub scanned : scan s ≡ ok (cell_at s d.counts)
  pub accepted : Accepted (cell_at s d.counts)
  pub tabled : Tabled (length s) (head_at s 0) (polygons_at s 14 d.counts.polys) w d
  pub held : WorkHeld s d.counts w
  pub length_is : Whole s d.counts
  pub long : 14 ≤ length s
  -- work is lent four times as long as the strip
  pub room : 4 * length s ≤ length w
