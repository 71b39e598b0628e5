-- `leaf_replay::take_areas` meets its contract. The loop's invariant: what is taken from here makes the whole.
use Prim.Native.Nat.{◌-◌}
use native.Mathlib.Omega.{arith}
use mathlib.Core.Path.{◌≡◌}
use Rattle.leaf_replay.proofs.Turns.{one_more, full, no_more}
use Rattle.leaf_replay.proofs.take_areas.Goals as goal

pub loop-i-init : goal.loop-i-init
loop-i-init c = (omega arith, omega arith, rw (c.seed_areas-t.ensures, c.word.ensures))

pub loop-i-preserved : goal.loop-i-preserved
loop-i-preserved c =
    let l = c.loop-i in
    (omega arith, omega arith, one_more _ l.i l.t c.ensure_area-e.result _ _ l.invariant.0 c.loop-i-test.true l.invariant.2 c.ensure_area-e.ensures c.in-Some.is)

pub returns-in-None : goal.returns-in-None
returns-in-None c =
    let l = c.loop-i in
    full _ l.i l.t c.ensure_area-e.result _ c.loop-i-test.true l.invariant.2 c.ensure_area-e.ensures c.in-None.is

pub returns : goal.returns
returns c =
    let l = c.loop-i in
    let last : c.saturating_sub.result ≡ l.i - 1 = omega (arith, c.saturating_sub.ensures, l.invariant.0, l.invariant.1) in
    rw last (no_more _ l.i l.t _ c.loop-i-test.false l.invariant.2)
