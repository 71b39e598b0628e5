-- `reach_walk::visit` meets its contract: the test of its mark, and the edges of its record.
use Prim.Native.Nat.{min}
use mathlib.Core.Path.{◌≡◌, refl}
use native.Mathlib.Omega.{arith}
use Rattle.strip.specs.Reading.{poly_at}
use Rattle.strip.proofs.Steps.{parts}
use Rattle.reach_walk.proofs.Work.{polygon_inside, visit_is, visit_not}
use Rattle.reach_walk.proofs.visit.Goals as goal

pub poly_at-p-requires : goal.poly_at-p-requires
poly_at-p-requires c =
    let p = poly_at c.args.guide.now.strip.now c.place_of-at.result in
    omega (arith, parts _ _ p refl, polygon_inside _ _ _ p c.place_of-at.ensures refl _ _ _ c.requires.0 c.requires.1)

pub edge_pass-requires : goal.edge_pass-requires
edge_pass-requires c = omega (arith, c.min-edges.ensures, parts _ _ _ c.poly_at-p.ensures, polygon_inside _ _ _ _ c.place_of-at.ensures c.poly_at-p.ensures _ _ _ c.requires.0 c.requires.1)

pub returns-then-marks-i-eq2 : goal.returns-then-marks-i-eq2
returns-then-marks-i-eq2 c =
    let p = c.poly_at-p.result in
    let served : c.min-edges.result ≡ min p.vertices p.edges = omega (arith, c.min-edges.ensures) in
    visit_is _ _ _ p c.place_of-at.ensures c.poly_at-p.ensures _ _ _ _ served c.edge_pass.ensures c.if-marks-i-eq2.true

pub returns-else-marks-i-eq2 : goal.returns-else-marks-i-eq2
returns-else-marks-i-eq2 c = visit_not _ _ _ _ c.if-marks-i-eq2.false
