-- `write_corner_checks::decide_corner` meets its contract: 14 by the vertex table, 15 by the areas, and otherwise the number stored behind the table, each a law of `Answers`.
use native.Mathlib.Omega.{arith}
use Rattle.std.proofs.lemmas.Result.{err_from_is_err_and}
use Rattle.write_corner_checks.proofs.Answers.{number_le, corner_no_vertex, corner_no_area, corner_fine}
use Rattle.write_corner_checks.proofs.decide_corner.Goals as goal

pub returns-in_default : goal.returns-in_default
returns-in_default c = corner_no_vertex _ _ _ _ _ _ _ _ _ _ c.requires.0 c.requires.1 _ c.vertex_index.ensures c.in_default.is

pub returns-in_err-tables : goal.returns-in_err-tables
returns-in_err-tables c =
    let p = err_from_is_err_and c.from_residual.result c.from_residual.ensures.1 in
    rw (p.1, p.2) (corner_no_area _ _ _ _ _ _ _ _ _ _ c.requires.0 c.requires.1 _ c.vertex_index.ensures _ c.in-Some.is _ _ c.ensure_edge.ensures _ c.in_err-tables.was)

pub overflow_cast-work : goal.overflow_cast-work
overflow_cast-work c = omega (arith, number_le _ _ _ _ _ c.args.tables.now _ _ 0 0 c.requires.0 c.requires.1 _ c.vertex_index.ensures _ c.in-Some.is)

pub returns : goal.returns
returns c = corner_fine _ _ _ _ _ _ _ _ _ _ c.requires.0 c.requires.1 _ c.vertex_index.ensures _ c.in-Some.is _ _ c.ensure_edge.ensures _ c.in_ok-tables.was
