-- `pick_contains::crossings` meets its contract: a turn takes one side of those that are left.
use mathlib.Core.Path.{ap}
use Prim.Native.Nat.{◌+◌, ◌*◌}
use native.Mathlib.Omega.{arith}
use Rattle.pick_contains.specs.Vertices.{spot_on, vertex_spot}
use Rattle.pick_contains.proofs.Laws.{one_most, crossings_turn, crossings_done}
use Rattle.pick_contains.proofs.crossings.Goals as goal

pub loop-i-preserved : goal.loop-i-preserved
loop-i-preserved c =
    let a = c.args in
    let l = c.loop-i in
    let ws = a.strip.now in
    let next = c.read_vertex-next.ensures in
    let turn =
    crossings_turn (spot_on a.x a.y) ws a.s (vertex_spot ws a.x l.last) (a.at + 3 * l.i) l.i a.n c.loop-i-test.true _ (ap (vertex_spot ws a.x) next) _ c.crossed.ensures (a.at + 3 * (l.i + 1)) (omega arith)
    in
    (rw next (omega arith), omega (arith, c.from-count.ensures, one_most c.crossed.result), omega (arith, turn, c.from-count.ensures))

pub returns : goal.returns
returns c =
    let a = c.args in
    let l = c.loop-i in
    let ws = a.strip.now in
    omega (arith, crossings_done (spot_on a.x a.y) ws a.s (vertex_spot ws a.x l.last) (a.at + 3 * l.i) l.i a.n c.loop-i-test.false)
