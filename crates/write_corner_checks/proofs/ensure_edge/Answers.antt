-- `write_corner_checks::ensure_edge` meets its contract: half a, and then half b, each a law of `Answers`.
use Rattle.std.proofs.lemmas.Result.{err_from_is_err_and}
use Rattle.write_corner_checks.proofs.Answers.{edge_no_a, edge_on}
use Rattle.write_corner_checks.proofs.ensure_edge.Goals as goal

pub returns-in_err-one : goal.returns-in_err-one
returns-in_err-one c =
    let p = err_from_is_err_and c.from_residual.result c.from_residual.ensures.1 in
    rw (p.1, p.2) (edge_no_a _ _ _ _ _ _ c.ensure_area.ensures _ c.in_err-one.was)

pub returns : goal.returns
returns c = edge_on _ _ _ _ _ _ c.ensure_area.ensures _ c.in_ok-one.was _ _ c.ensure_area-2.ensures
