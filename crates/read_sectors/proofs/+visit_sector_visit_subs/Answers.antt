-- The cycle of calls {visit_sector, visit_subs} meets its contracts. What each return is asked is a law of proofs/Steps.
use Rattle.std.proofs.lemmas.Result.{err_from_is_err_and}
use Rattle.read_sectors.proofs.Steps.{too_many, bad_sector, bad_data, into, turn_end, turn_skip, turn_stop, turn_next}
use Rattle.read_sectors.proofs.+visit_sector_visit_subs.Goals as goal

pub visit_sector-returns-then-from-eq0 : goal.visit_sector-returns-then-from-eq0
visit_sector-returns-then-from-eq0 t c = too_many _ _ _ _ c.if-from-eq0.true

pub visit_sector-returns-then-sector-lt-SECTOR_SIZE : goal.visit_sector-returns-then-sector-lt-SECTOR_SIZE
visit_sector-returns-then-sector-lt-SECTOR_SIZE t c = bad_sector _ _ _ _ c.if-from-eq0.false c.resolve-sector.ensures.content c.if-sector-lt-SECTOR_SIZE.true

pub visit_sector-returns-in_err-n : goal.visit_sector-returns-in_err-n
visit_sector-returns-in_err-n t c =
    let p = err_from_is_err_and c.from_residual.result c.from_residual.ensures.1 in
    rw (p.1, p.2) (bad_data _ _ _ _ c.if-from-eq0.false c.resolve-sector.ensures.content c.if-sector-lt-SECTOR_SIZE.false c.in_err-n.ensures.answer)

pub visit_sector-returns : goal.visit_sector-returns
visit_sector-returns t c =
    into _ _ _ _ c.if-from-eq0.false c.resolve-sector.ensures.content c.if-sector-lt-SECTOR_SIZE.false c.in_ok-n.ensures.answer c.in_ok-n.ensures.bound c.visit_subs.ensures

pub visit_subs-returns-in_err-at : goal.visit_subs-returns-in_err-at
visit_subs-returns-in_err-at t c =
    let p = err_from_is_err_and c.from_residual.result c.from_residual.ensures.1 in
    rw (p.1, p.2) (turn_stop _ _ c.loop-i.invariant c.loop-i-test.true c.sub_at-sub.ensures c.if-sub-ne0.true c.in_err-at.ensures)

pub visit_subs-loop-i-preserved-then-sub-ne0 : goal.visit_subs-loop-i-preserved-then-sub-ne0
visit_subs-loop-i-preserved-then-sub-ne0 t c = turn_next _ _ c.loop-i.invariant c.loop-i-test.true c.sub_at-sub.ensures c.if-sub-ne0.true c.in_ok-at.ensures

pub visit_subs-loop-i-preserved : goal.visit_subs-loop-i-preserved
visit_subs-loop-i-preserved t c = turn_skip _ _ c.loop-i.invariant c.loop-i-test.true c.sub_at-sub.ensures c.if-sub-ne0.false

pub visit_subs-returns : goal.visit_subs-returns
visit_subs-returns t c = turn_end _ _ c.loop-i.invariant c.loop-i-test.false
