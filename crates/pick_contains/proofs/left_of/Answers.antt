-- `pick_contains::left_of` meets its contract, from what three products ensure.
use Prim.Native.Nat.{◌+◌, ◌-◌, ◌*◌}
use native.Mathlib.Omega.{arith}
use Rattle.pick_contains.specs.Inside.{left_of}
use Rattle.pick_contains.proofs.Laws.{same_test}
use Rattle.pick_contains.proofs.left_of.Goals as goal

pub returns : goal.returns
unfolding left_of
returns c =
    let a = c.args in
    let one = c.times in
    let two = c.times-2 in
    let three = c.times-3 in
    let low = a.low in
    let high = a.high in
    same_test one.result (two.result + three.result) (a.s.x * (high.y - low.y)) (low.x * (high.y - a.s.y) + high.x * (a.s.y - low.y))
    (omega (arith, one.ensures.product, two.ensures.product, three.ensures.product))
