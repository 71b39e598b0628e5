-- `check_lists` meets its contract. Each return by the law of its answer (proofs/Decides).
use mathlib.Core.Path.{ap, ◌∙◌}
use Rattle.std.proofs.lemmas.Result.{err_from_is_err_and}
use Rattle.read_decide.specs.Deciding.{addresses}
use Rattle.read_decide.proofs.Decides.{stopped_by_list, may_check, stopped_by_polygon, all_tallied}
use Rattle.read_decide.proofs.check_lists.Goals as goal

pub check_polygons-requires : goal.check_polygons-requires
check_polygons-requires c = let a = c.list_addresses-a.ensures ∙ ap addresses c.requires in may_check c.args.reader.system.now c.args.reader.graphics.now a c.links_of-links.ensures c.read_lists.result (c.read_lists.ensures.answer, c.read_lists.ensures.lists) c.in_ok-limits.was c.list_table-indices.ensures c.list_table-polygons.ensures

pub returns-in_err-limits : goal.returns-in_err-limits
returns-in_err-limits c =
    let a = c.list_addresses-a.ensures ∙ ap addresses c.requires in
    let p = err_from_is_err_and c.from_residual.result c.from_residual.ensures.1 in
    rw (p.1, p.2) (stopped_by_list c.args.reader.system.now c.args.reader.graphics.now a c.links_of-links.ensures c.read_lists.result (c.read_lists.ensures.answer, c.read_lists.ensures.lists) c.in_err-limits.was)

pub returns-in_err-words : goal.returns-in_err-words
returns-in_err-words c =
    let a = c.list_addresses-a.ensures ∙ ap addresses c.requires in
    let p = err_from_is_err_and c.from_residual-in_err-words.result c.from_residual-in_err-words.ensures.1 in
    rw (p.1, p.2) (stopped_by_polygon c.args.reader.system.now c.args.reader.graphics.now a c.links_of-links.ensures c.read_lists.result (c.read_lists.ensures.answer, c.read_lists.ensures.lists) c.in_ok-limits.was c.list_table-indices.ensures c.list_table-polygons.ensures c.check_polygons.result (c.check_polygons.ensures.answer, c.check_polygons.ensures.bound) c.in_err-words.was)

pub returns : goal.returns
returns c = let a = c.list_addresses-a.ensures ∙ ap addresses c.requires in all_tallied c.args.reader.system.now c.args.reader.graphics.now a c.links_of-links.ensures c.read_lists.result (c.read_lists.ensures.answer, c.read_lists.ensures.lists) c.in_ok-limits.was c.list_table-indices.ensures c.list_table-polygons.ensures c.check_polygons.result (c.check_polygons.ensures.answer, c.check_polygons.ensures.bound) c.in_ok-words.was
