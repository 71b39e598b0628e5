-- `find_points` meets its contract: each return is a law of proofs/Data, by the tests that led there.
use native.Mathlib.Omega.{arith}
use mathlib.Core.Path.{◌∙◌}
use Rattle.read_sectors.proofs.Data.{find_none, find_bad_data, find_no_points, find_bad_points, find_points}
use borrow.Author.Rules.{rules}
use Rattle.read_sectors.proofs.find_points.Goals as goal

pub returns-then-va-eq0 : goal.returns-then-va-eq0
returns-then-va-eq0 c =
    record {
      answer = find_none _ _ _ c.u64_le-va.ensures (omega (arith, c.if-va-eq0.true));
      bound = search rules;
    }

pub returns-then-data-lt-SECTOR_DATA_SIZE : goal.returns-then-data-lt-SECTOR_DATA_SIZE
returns-then-data-lt-SECTOR_DATA_SIZE c =
    record {
      answer = find_bad_data _ _ _ c.u64_le-va.ensures (λ z. c.if-va-eq0.false (omega arith)) c.resolve-data.ensures.content (omega (arith, c.if-data-lt-SECTOR_DATA_SIZE.true));
      bound = tt;
    }

pub returns-then-n-eq0 : goal.returns-then-n-eq0
returns-then-n-eq0 c =
    record {
      answer = find_no_points _ _ _ c.u64_le-va.ensures (λ z. c.if-va-eq0.false (omega arith)) c.resolve-data.ensures.content (omega (arith, c.if-data-lt-SECTOR_DATA_SIZE.false)) (c.from-n.ensures ∙ c.u16_le.ensures) (omega (arith, c.if-n-eq0.true));
      bound = search rules;
    }

pub returns-then-points-n : goal.returns-then-points-n
returns-then-points-n c =
    record {
      answer = find_bad_points _ _ _ c.u64_le-va.ensures (λ z. c.if-va-eq0.false (omega arith)) c.resolve-data.ensures.content (omega (arith, c.if-data-lt-SECTOR_DATA_SIZE.false)) (c.from-n.ensures ∙ c.u16_le.ensures) (λ z. c.if-n-eq0.false (omega arith))
          c.u64_le.ensures (omega arith) c.resolve-points.ensures.content (omega (arith, c.if-points-n.true));
      bound = tt;
    }

pub returns : goal.returns
returns c =
    record {
      answer = find_points _ _ _ c.u64_le-va.ensures (λ z. c.if-va-eq0.false (omega arith)) c.resolve-data.ensures.content (omega (arith, c.if-data-lt-SECTOR_DATA_SIZE.false)) (c.from-n.ensures ∙ c.u16_le.ensures) (λ z. c.if-n-eq0.false (omega arith))
          c.u64_le.ensures (omega arith) c.resolve-points.ensures.content (omega (arith, c.if-points-n.false));
      bound = search rules;
    }
