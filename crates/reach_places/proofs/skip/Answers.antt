-- `reach_places::skip` meets its contract. The invariant: the polygons that are left, from `place` on, end where all of them do.
use lib.ListN.{length}
use mathlib.Core.Path.{refl, sym, ◌∙◌}
use native.Mathlib.Nat.{sub-zero}
use native.Mathlib.Omega.{arith}
use Rattle.strip.specs.Reading.{poly_at}
use Rattle.strip.proofs.Steps.{parts, after_polygon, next_inside}
use Rattle.reach_places.proofs.Walk.{after_done}
use Rattle.reach_places.proofs.skip.Goals as goal

pub loop-init : goal.loop-init
loop-init c = rw sub-zero

pub poly_at-place-requires : goal.poly_at-place-requires
poly_at-place-requires c =
    let a = c.args in
    let l = c.loop in
    let p = poly_at a.strip.now l.place in
    omega (arith, l.invariant, parts a.strip.now l.place p refl, next_inside a.strip.now l.place l.counter a.n (length a.strip.now) c.loop-test.true (omega (arith, l.invariant)) p refl)

pub loop-preserved : goal.loop-preserved
loop-preserved c = c.loop.invariant ∙ after_polygon _ _ _ _ c.loop-test.true _ c.poly_at-place.ensures

pub returns : goal.returns
returns c = sym (c.loop.invariant ∙ after_done _ _ _ _ c.loop-test.false)
