-- `put_sector_points` meets its contract: where data and points are good, the fields that it reads are there.
use native.Mathlib.Omega.{arith}
use mathlib.Core.Path.{◌∙◌}
use Rattle.read_sectors.proofs.Data.{without_data, no_points, points_there}
use Rattle.read_points.proofs.Stores.{stays}
use Rattle.read_points.proofs.put_sector_points.Goals as goal

pub returns-then-va-eq0 : goal.returns-then-va-eq0
returns-then-va-eq0 c = let w = stays _ _ (without_data _ _ _ c.u64_le-va.ensures (omega (arith, c.if-va-eq0.true))).1 in record { next = w.0; content = w.1 }

pub returns-then-n-eq0 : goal.returns-then-n-eq0
returns-then-n-eq0 c = let w = stays _ _ (no_points _ _ _ c.u64_le-va.ensures c.resolve-data.ensures.content (c.from-n.ensures ∙ c.u16_le.ensures) (omega (arith, c.if-n-eq0.true))) in record { next = w.0; content = w.1 }

pub put_points-requires : goal.put_points-requires
put_points-requires c =
    let (long, e, n) =
    points_there _ _ _ c.u64_le-va.ensures c.requires.sector_value c.resolve-data.ensures.content (c.from-n.ensures ∙ c.u16_le.ensures) (λ z. c.if-va-eq0.false (omega arith)) (λ z. c.if-n-eq0.false (omega arith)) c.u64_le.ensures
    (omega arith) c.resolve-points.ensures.content in
    (omega (arith, long), omega (arith, c.requires.sector_in_bounds))

pub returns : goal.returns
returns c =
    let (long, e, n) =
    points_there _ _ _ c.u64_le-va.ensures c.requires.sector_value c.resolve-data.ensures.content (c.from-n.ensures ∙ c.u16_le.ensures) (λ z. c.if-va-eq0.false (omega arith)) (λ z. c.if-n-eq0.false (omega arith)) c.u64_le.ensures
    (omega arith) c.resolve-points.ensures.content in
    record {
      next = omega arith;
      content = rw e c.put_points.ensures;
    }
