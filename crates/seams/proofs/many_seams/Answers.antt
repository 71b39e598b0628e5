-- `seams::many_seams` meets its contract. The invariant: the counted halves of all the edges are the count and those of the edges that are left.
use Prim.Native.Nat.{◌+◌, ◌*◌}
use mathlib.Core.Path.{◌≡◌, ap}
use native.Mathlib.Nat.{zero-add, sub-zero}
use native.Mathlib.Omega.{arith}
use Rattle.strip.specs.Reading.{nav_edge_at}
use Rattle.strip.proofs.Steps.{items_turn, items_done}
use Rattle.seams.specs.Seams.{counted, edge_count}
use Rattle.seams.proofs.Row.{half_at_lem}
use Rattle.seams.proofs.many_seams.Goals as goal

pub loop-i-init : goal.loop-i-init
loop-i-init c =
    let first : c.args.at + 6 * 0 ≡ c.args.at = omega arith in
    (rw (first, sub-zero, zero-add), omega arith)

pub loop-i-preserved : goal.loop-i-preserved
unfolding edge_count
loop-i-preserved c =
    let a = c.args in
    let l = c.loop-i in
    let t = ap (edge_count (counted a.own)) (items_turn (nav_edge_at a.strip.now) (λ x. x + 6) (a.at + 6 * l.i) l.i a.n c.loop-i-test.true) in
    let next : a.at + 6 * (l.i + 1) ≡ a.at + 6 * l.i + 6 = omega arith in
    let first = half_at_lem (counted a.own) a.strip.now (a.at + 6 * l.i) c.half_seams-count.ensures.count (omega arith) in
    let second = half_at_lem (counted a.own) a.strip.now (a.at + 6 * l.i + 3) c.half_seams-count-in-loop-i.ensures.count (omega arith) in
    (rw next (omega (arith, t, first, second)), omega arith)

pub returns : goal.returns
unfolding edge_count
returns c =
    let a = c.args in
    let l = c.loop-i in
    record {
      count = omega (arith, ap (edge_count (counted a.own)) (items_done (nav_edge_at a.strip.now) (λ x. x + 6) (a.at + 6 * l.i) l.i a.n c.loop-i-test.false));
      bound = omega arith;
    }
