-- The cycle of calls {put_sector, put_subs} meets its contracts. What each goal asks is a law of proofs/Puts.
use native.Mathlib.Omega.{arith}
use Prim.Native.Nat.{◌<◌}
use Rattle.read_points.proofs.Puts.{visits_left, points_fit, subs_fit, tree_written, rest_end, rest_skip, rest_tree, rest_next}
use Rattle.read_points.proofs.+put_sector_put_subs.Goals as goal

pub put_sector-put_sector_points-next-requires : goal.put_sector-put_sector_points-next-requires
put_sector-put_sector_points-next-requires t c =
    let fit = points_fit _ _ _ _ c.resolve-sector.ensures.content c.requires in
    record { sector_value = fit.0; sector_in_bounds = fit.1 }

pub put_sector-overflow_sub-on : goal.put_sector-overflow_sub-on
put_sector-overflow_sub-on t c = visits_left _ _ _ _ c.resolve-sector.ensures.content c.requires

pub put_sector-put_subs-requires : goal.put_sector-put_subs-requires
put_sector-put_subs-requires t c =
    let m : 0 < c.args.from.left = visits_left _ _ _ _ c.resolve-sector.ensures.content c.requires in
    let fits = subs_fit _ _ _ _ c.resolve-sector.ensures.content c.requires c.put_sector_points-next.ensures.next c.put_sector_points-next.auto.strip in
    (omega arith, fits)

pub put_sector-returns : goal.put_sector-returns
put_sector-returns t c =
    tree_written _ _ _ _ c.resolve-sector.ensures.content c.put_sector_points-next.ensures.next c.put_sector_points-next.ensures.content c.put_subs.ensures

pub put_subs-put_sector-cursor-requires : goal.put_subs-put_sector-cursor-requires
put_subs-put_sector-cursor-requires t c =
    (omega arith, rest_tree _ _ c.loop-i.invariant c.loop-i-test.true c.sub_at-va.ensures c.if-va-ne0.true)

pub put_subs-loop-i-preserved-then-va-ne0 : goal.put_subs-loop-i-preserved-then-va-ne0
put_subs-loop-i-preserved-then-va-ne0 t c =
    rest_next _ _ c.loop-i.invariant c.loop-i-test.true c.sub_at-va.ensures c.if-va-ne0.true c.put_sector-cursor.ensures c.put_sector-cursor.auto.strip

pub put_subs-loop-i-preserved : goal.put_subs-loop-i-preserved
put_subs-loop-i-preserved t c = rest_skip _ _ c.loop-i.invariant c.loop-i-test.true c.sub_at-va.ensures c.if-va-ne0.false

pub put_subs-returns : goal.put_subs-returns
put_subs-returns t c = rest_end _ _ c.loop-i.invariant c.loop-i-test.false
