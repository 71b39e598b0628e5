-- `read_polygon_sides::put_near` meets its contract. The loop's invariant is `Near`, up to index k.
use native.Mathlib.Omega.{arith}
use mathlib.Core.Path.{◌≡◌}
use mathlib.Core.Logic.{inl, inr}
use Rattle.read_polygon_sides.proofs.Near.{gone_on, none_yet, near_more}
use Rattle.read_polygon_sides.proofs.put_near.Goals as goal
use Rattle.read_polygon_sides.proofs.put_near.Goals.{then-j-first-via-then-j-first, then-j-first-via-else-j-first+then-count-j}

pub loop-k-init : goal.loop-k-init
loop-k-init c = none_yet _ _ _ _ _ _ _ _ _ c.requires.3

pub returns-then-j-first : goal.returns-then-j-first
returns-then-j-first c =
    record {
      progress = elim c.then-j-first.branch [
        | then-j-first-via-then-j-first w ↦ gone_on _ _ c.loop-k.invariant.low c.index_at-j.ensures c.requires.4 c.requires.5 (inl w.if-j-first.true)
        | then-j-first-via-else-j-first+then-count-j w ↦ gone_on _ _ c.loop-k.invariant.low c.index_at-j.ensures c.requires.4 c.requires.5 (inr (omega (arith, w.if-j-first.false, w.if-count-j.true)))
      ];
      content = c.loop-k.invariant;
    }

pub loop-k-preserved : goal.loop-k-preserved
loop-k-preserved c = near_more _ _ _ _ _ _ _ _ _ c.loop-k.invariant c.loop-k-test.true c.index_at-j.ensures c.if-j-first.false (omega (arith, c.if-j-first.false, c.if-count-j.false)) c.put_vertex.ensures

pub returns : goal.returns
returns c =
    let last : c.loop-k.k ≡ c.args.n = omega (arith, c.loop-k.invariant.most) in
    record {
      progress = c.requires.3;
      content = rw last at c.loop-k.invariant;
    }
