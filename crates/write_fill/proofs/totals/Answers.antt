-- `write_fill::totals` meets its contract: the products fit by the counts' bounds, and their sum is the definition's in another order. Assumes nothing.
use Prim.Native.Nat.{◌+◌, ◌*◌}
use mathlib.Core.Path.{◌≡◌}
use native.Mathlib.Omega.{arith}
use Rattle.fields.specs.Sizes.{edge_size, index_size, poly_size, portal_size, vertex_size}
use Rattle.write_fill.proofs.totals.Goals as goal

pub overflow_cast-result-4 : goal.overflow_cast-result-4
overflow_cast-result-4 c = omega (arith, c.requires)

pub overflow_cast-result-5 : goal.overflow_cast-result-5
overflow_cast-result-5 c = omega (arith, c.requires)

pub overflow_add-result : goal.overflow_add-result
overflow_add-result c = omega (arith, c.requires)

pub returns : goal.returns
returns c =
    let d = c.args.d in
    let b = c.args.bytes in
    let sum : b + (vertex_size * d.vertices + (index_size + edge_size) * d.corners + poly_size * d.counts.polys + portal_size * d.counts.portals)
    ≡ b + portal_size * d.counts.portals + vertex_size * d.vertices + index_size * d.corners + edge_size * d.corners + poly_size * d.counts.polys = omega arith in
    rw (c.area_count.ensures, sum)
