-- `pushed::pushed_places` meets its contract: each turn adds what is further (`places_split`). Assumes nothing.
use mathlib.Core.Path.{◌≡◌, sym}
use Rattle.std.proofs.Common.{arith}
use Rattle.pushed.proofs.Sums.{no_places, places_split}
use Rattle.pushed.proofs.pushed_places.Goals as goal

pub loop-i-init : goal.loop-i-init
loop-i-init c = (omega arith, omega arith, sym (no_places _ _ _ _))

pub loop-i-preserved : goal.loop-i-preserved
loop-i-preserved c =
    let a = c.args in
    let more = places_split a.frame.bb_min a.frame.bb_size a.strip.now a.first c.loop-i.i c.min-part.result in
    (omega arith, omega arith, omega (arith, more, c.pushed_part.ensures.count))

pub returns : goal.returns
returns c =
    let all : c.loop-i.i ≡ c.args.n = omega arith in
    record { count = rw (← all) c.loop-i.invariant.2; bound = omega arith }
