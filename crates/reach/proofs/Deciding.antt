-- What `reachable` has to decide of a strip that `check_strip` takes. Assumes nothing.
use Prim.Native.Nat.{ℕ, ◌<◌, ◌≤◌}
use mathlib.Core.Path.{◌≡◌, ◌∙◌}
use mathlib.Core.List.{List}
use lib.ListN.{length}
use borrow.Author.Tests.{lt-ltb, le-ltb, le-leb, lt-leb}
use Rattle.strip.specs.Laid.{cell_at, first_portal}
use Rattle.strip.specs.Outcome.{refused, done}
use Rattle.strip.specs.declared.Counts.{Counts}
use Rattle.strip.proofs.Laid.{Well}
use Rattle.reach.specs.Reached.{reached, reach_outcome}
use Rattle.reach.specs.Settled.{Walked}
use Rattle.reach.proofs.Marks.{marks_length}
use Rattle.reach.proofs.Walks.{polys_length, walked_is}

module _ (s : List ℕ) (start room : ℕ) (n : Counts) (w : Well s n) where
  pub no_start : n.polys ≤ start → reach_outcome s start room ≡ refused 42 0
  unfolding reached
  no_start h = rw (w.is, polys_length s n, le-ltb start n.polys h)

  pub no_room : start < n.polys → room < n.polys → reach_outcome s start room ≡ refused 43 0
  unfolding reached
  no_room h k = rw (w.is, polys_length s n, lt-ltb start n.polys h, lt-leb n.polys room k)

  module _ (h : start < n.polys) (k : n.polys ≤ room) (m' : List ℕ) (count : ℕ) (t : Walked s (first_portal s n) n.portals start n.polys m' count) where
    pub all_marked : reach_outcome s start room ≡ done count m'
    unfolding reached
    all_marked =
        let (marks, total) = walked_is s n start t.stride h m' count t.settled in
        rw (w.is, polys_length s n, lt-ltb start n.polys h, le-leb n.polys room k, total, marks)

    pub one_each : length m' ≡ n.polys
    one_each = rw (walked_is s n start t.stride h m' count t.settled).0 (marks_length (cell_at s n) start (rw (polys_length s n) h) ∙ polys_length s n)
