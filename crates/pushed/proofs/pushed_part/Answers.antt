-- `pushed::pushed_part` meets its contract: each turn adds what is further (`places_more`). Assumes nothing.
use mathlib.Core.Path.{◌≡◌, sym}
use native.Mathlib.Omega.{arith}
use Rattle.pushed.proofs.Sums.{no_places, places_more}
use Rattle.pushed.proofs.pushed_part.Goals as goal

pub loop-i-init : goal.loop-i-init
loop-i-init c = (omega arith, sym (no_places _ _ _ _))

pub loop-i-preserved : goal.loop-i-preserved
loop-i-preserved c =
    let a = c.args in
    let more = places_more a.frame.bb_min a.frame.bb_size a.strip.now a.first c.loop-i.i in
    (omega arith, omega (arith, more, c.outside_at-pushed.ensures.count))

pub returns : goal.returns
returns c =
    let all : c.loop-i.i ≡ c.args.n = omega arith in
    record { count = rw (← all) c.loop-i.invariant.1; bound = omega arith }
