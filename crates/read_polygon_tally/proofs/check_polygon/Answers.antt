-- `read_polygon_tally::check_polygon` meets its contract: each branch is one case of `tally_of`, and `run_below`'s answer decides between the last two.
use native.Mathlib.Omega.{arith}
use mathlib.Core.Path.{refl}
use Rattle.read_polygon_tally.proofs.Tallies.{run_out, edges_out, index_out, all_well}
use Rattle.read_polygon_tally.proofs.check_polygon.Goals as goal
use Rattle.read_polygon_tally.proofs.check_polygon.Goals.{then-limits-start-via-then-limits-start, then-limits-start-via-else-limits-start+then-limits-start-2}

pub returns-then-limits-start : goal.returns-then-limits-start
returns-then-limits-start c =
    elim c.then-limits-start.branch [
      | then-limits-start-via-then-limits-start w ↦ run_out _ _ _ _ c.u16_le.ensures refl c.u16_le-start.ensures (omega (arith, w.if-limits-start.true))
      | then-limits-start-via-else-limits-start+then-limits-start-2 w ↦ edges_out _ _ _ _ c.u16_le.ensures refl c.u16_le-start.ensures (omega (arith, w.if-limits-start.false)) (omega (arith, w.if-limits-start-2.true))
    ]

pub returns-in_default : goal.returns-in_default
returns-in_default c = index_out _ _ _ _ c.u16_le.ensures refl c.u16_le-start.ensures (omega (arith, c.if-limits-start.false)) (omega (arith, c.if-limits-start-2.false)) refl c.in_default.ensures

pub returns : goal.returns
returns c =
    let h = c.in-Some.ensures in (
      all_well _ _ _ _ c.u16_le.ensures refl c.u16_le-start.ensures (omega (arith, c.if-limits-start.false)) (omega (arith, c.if-limits-start-2.false)) refl h.0 c.link_count.ensures.count,
      h.1,
      omega (arith, c.link_count.ensures.bound),
    )
