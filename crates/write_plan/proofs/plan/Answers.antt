-- `write_plan::plan` meets its contract: what `decide` refused stays refused; otherwise the boxes and leaves that were stored give the check of the leaves,
-- and then that of the counts. `early`, `bad_leaf`, `bad_count` and `all_passed` are the four ends.
use Rattle.std.proofs.lemmas.Result.{err_from_is_err_and}
use Rattle.write_plan.proofs.Whole.{early, long, record_is, length_is, room, held, bad_leaf, bad_count, all_passed}
use Rattle.write_plan.proofs.plan.Goals as goal

pub put_rest-requires : goal.put_rest-requires
put_rest-requires c =
    let decided = c.decide.ensures in
    let good = c.in_ok-d.was in
    (long _ _ _ _ decided _ good, record_is _ _ _ _ decided _ good, length_is _ _ _ _ decided _ good, room _ _ _ _ decided _ good)

pub check_leaves-requires : goal.check_leaves-requires
check_leaves-requires c =
    let decided = c.decide.ensures in
    let good = c.in_ok-d.was in
    (record_is _ _ _ _ decided _ good, held _ _ _ _ decided _ good _ c.put_rest.ensures)

pub returns-in_err-d : goal.returns-in_err-d
returns-in_err-d c =
    let p = err_from_is_err_and c.from_residual.result c.from_residual.ensures.1 in
    rw (p.1, p.2) (early _ _ _ _ c.decide.ensures _ c.in_err-d.was)

pub returns-in_err-check_leaves : goal.returns-in_err-check_leaves
returns-in_err-check_leaves c =
    let p = err_from_is_err_and c.from_residual-in_err-check_leaves.result c.from_residual-in_err-check_leaves.ensures.1 in
    rw (p.1, p.2) (bad_leaf _ _ _ _ c.decide.ensures _ c.in_ok-d.was _ c.put_rest.ensures _ c.check_leaves.ensures _ c.in_err-check_leaves.was)

pub returns-in_err-count_verdict : goal.returns-in_err-count_verdict
returns-in_err-count_verdict c =
    let p = err_from_is_err_and c.from_residual-in_err-count_verdict.result c.from_residual-in_err-count_verdict.ensures.1 in
    rw (p.1, p.2) (bad_count _ _ _ _ c.decide.ensures _ c.in_ok-d.was _ c.put_rest.ensures _ c.check_leaves.ensures _ c.in_ok-check_leaves.was _ c.count_verdict.ensures _ c.in_err-count_verdict.was)

pub returns : goal.returns
returns c = all_passed _ _ _ _ c.decide.ensures _ c.in_ok-d.was _ c.put_rest.ensures _ c.check_leaves.ensures _ c.in_ok-check_leaves.was _ c.count_verdict.ensures _ c.in_ok-count_verdict.was
