-- What the call answers after the plan P: its refusal, then 2 where the pages don't fit, and otherwise the length of the cell's pages, the points stored, the points dropped and the coordinates pushed. Assumes nothing.
use Prim.Native.Nat.{ℕ, ◌+◌, ◌≤◌, ◌<◌}
use native.Mathlib.Omega.{arith}
use mathlib.Core.Path.{◌≡◌, ap, ◌∙◌}
use mathlib.Core.List.{List}
use lib.ListN.{length}
use lib.Dec.{ltb}
use borrow.Author.Tests.{lt-ltb, le-ltb}
use Rattle.strip.specs.Reasons.{reason_number}
use Rattle.strip.specs.Outcome.{refused, done, values, shown}
use Rattle.pushed.specs.Pushed.{pushed}
use Rattle.write_pages.specs.Pages.{pages}
use Rattle.write_pages.specs.PointCounts.{stored_count, dropped_count}
use Rattle.write_pages.specs.Checks.{fine, fault_if, at, on_verdict}
use Rattle.write_pages.proofs.Stored.{stored_and_dropped}
use Rattle.strip.specs.declared.Counts.{Counts}
use Rattle.strip.proofs.Laid.{counts_back}
use Rattle.strip.specs.declared.Refusal.{Refusal}
use Rattle.std.specs.Prelude.{Result, Ok, Err}
use Rattle.write_decide.specs.declared.Decision.{Decision}
use Rattle.write_plan.specs.Plan.{Planned}
use Rattle.strip.specs.Laid.{cell_at}
use Rattle.write_plan.proofs.Ready.{ready, verdict_of, refused_so}
use Rattle.ynv_write.specs.Serialize.{written_of, serialize_outcome}

-- the points that are counted are stored or dropped
pub all_points : (s : List ℕ) (n : Counts) → stored_count (cell_at s n) + dropped_count (cell_at s n) ≡ n.points
all_points s n = stored_and_dropped (cell_at s n) ∙ ap (λ (m : Counts). m.points) (counts_back s n)

module _ (s w w' : List ℕ) (r : Result Decision Refusal) (P : Planned s w w' r) (out : ℕ) where
  pub refuses : (q : Refusal) → r ≡ Err q → serialize_outcome s (length w) out ≡ refused (reason_number q.reason) q.place
  unfolding serialize_outcome
  refuses q bad = refused_so s w w' r written_of out P q bad

  module _ (d : Decision) (z : r ≡ Ok d) where
    decided : serialize_outcome s (length w) out
        ≡ on_verdict (at 0 (fault_if (ltb out (length (pages (cell_at s d.counts)))) 2) fine) (done (written_of (cell_at s d.counts)) (pages (cell_at s d.counts)))
    unfolding serialize_outcome
    decided = rw ((ready s w w' r P d z).scanned, verdict_of s w w' r out P d z)

    pub too_short : out < length (pages (cell_at s d.counts)) → serialize_outcome s (length w) out ≡ refused 2 0
    unfolding at
    too_short h = decided ∙ rw (lt-ltb out (length (pages (cell_at s d.counts))) h)

    pub writes : length (pages (cell_at s d.counts)) ≤ out
        → serialize_outcome s (length w) out ≡ done (written_of (cell_at s d.counts)) (pages (cell_at s d.counts))
    unfolding at
    writes h = decided ∙ rw (le-ltb out (length (pages (cell_at s d.counts))) h)

    -- and says its length, its points, which are stored or dropped, and what is pushed
    pub answers : length (pages (cell_at s d.counts)) ≤ out → {n k l u : ℕ} → n ≡ length (pages (cell_at s d.counts)) → k ≡ stored_count (cell_at s d.counts) → k + l ≡ d.counts.points → u ≡ pushed (cell_at s d.counts)
        → values (record { length = n; stored = k; dropped = l; pushed = u }) ≡ shown (serialize_outcome s (length w) out)
    answers h {n} {k} {l} {u} e f g q =
        let lost : l ≡ dropped_count (cell_at s d.counts) = omega (arith, all_points s d.counts) in
        rw (writes h, e, f, lost, q)
