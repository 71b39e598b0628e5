-- `pick_contains::contains` meets its contract: the first side goes from the last vertex to the first.
use Prim.Native.Nat.{◌+◌, ◌-◌, ◌*◌}
use mathlib.Core.Path.{sym, ap}
use native.Mathlib.Omega.{arith}
use Rattle.strip.specs.Reading.{vec_at, polygon_of}
use Rattle.pick_contains.specs.Vertices.{spot_on, vertex_spot}
use Rattle.pick_contains.proofs.Laws.{same_place, no_vertices, some_vertices}
use Rattle.pick_contains.proofs.contains.Goals as goal

pub returns-then-n-eq0 : goal.returns-then-n-eq0
unfolding polygon_of
returns-then-n-eq0 c =
    let a = c.args in
    sym (no_vertices (spot_on a.x a.y) a.strip.now a.s a.p.vertex_at a.p.vertices (omega arith))

pub crossings-requires : goal.crossings-requires
crossings-requires c = (omega arith, rw c.read_vertex-last.ensures (omega arith))

pub returns : goal.returns
unfolding polygon_of
returns c =
    let a = c.args in
    let ws = a.strip.now in
    let at = a.p.vertex_at in
    let n = a.p.vertices in
    let spot = spot_on a.x a.y in
    let last = same_place (λ k. spot (vec_at ws k)) (at + 3 * (n - 1)) (ap (vertex_spot ws a.x) c.read_vertex-last.ensures) (omega arith) in
    sym (some_vertices spot ws a.s at n (omega arith) _ last _ c.crossings.ensures)
