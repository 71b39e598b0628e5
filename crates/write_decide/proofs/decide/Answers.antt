-- `write_decide::decide` meets its contract: the strip, the checks before the polygons and the polygons decide in turn, and the first that refuses is the answer.
use native.Mathlib.Omega.{arith}
use Rattle.std.proofs.lemmas.Result.{err_from_is_err_and}
use Rattle.strip.proofs.Laid.{well, not_well}
use Rattle.write_decide.proofs.Fronts.{not_formed, room, bad_front, good_front}
use Rattle.write_decide.proofs.decide.Goals as goal

pub front_verdict-requires : goal.front_verdict-requires
front_verdict-requires c = (well _ _ _ c.check_strip.ensures c.in_ok-counts.was).long

pub decide_well-requires : goal.decide_well-requires
decide_well-requires c =
    let w = well _ _ _ c.check_strip.ensures c.in_ok-counts.was in
    (w.long, omega (arith, w.length_is), room _ c.args.work.now _ w _ c.front_verdict.ensures _ c.in_ok-front_verdict.was)

pub returns-in_err-counts : goal.returns-in_err-counts
returns-in_err-counts c =
    let p = err_from_is_err_and c.from_residual.result c.from_residual.ensures.1 in
    rw (p.1, p.2) (not_formed _ _ _ (not_well _ _ _ c.check_strip.ensures c.in_err-counts.was))

pub returns-in_err-front_verdict : goal.returns-in_err-front_verdict
returns-in_err-front_verdict c =
    let p = err_from_is_err_and c.from_residual-in_err-front_verdict.result c.from_residual-in_err-front_verdict.ensures.1 in
    let w = well _ _ _ c.check_strip.ensures c.in_ok-counts.was in
    rw (p.1, p.2) (bad_front _ _ _ w _ c.front_verdict.ensures _ c.in_err-front_verdict.was)

pub returns : goal.returns
returns c =
    let w = well _ _ _ c.check_strip.ensures c.in_ok-counts.was in
    good_front _ _ _ w _ c.front_verdict.ensures _ c.in_ok-front_verdict.was _ _ c.decide_well.ensures
