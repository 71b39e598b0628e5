-- `strip_parts::check_cell` meets its contract: what `check_strip` ensures gives the cell (`well`), whose counts are those, and its box is tested.
-- Assumes nothing.
use Rattle.std.proofs.Common.{sym, ap, ◌∙◌}
use Rattle.std.proofs.lemmas.Result.{err_from_is_err_and}
use Rattle.strip.proofs.Laid.{well, not_well}
use Rattle.strip.specs.Outcome.{refusal_of}
use Rattle.strip_parts.proofs.Boxed.{takes}
use Rattle.strip_parts.proofs.check_cell.Goals as goal

pub finite_box-requires : goal.finite_box-requires
finite_box-requires c = (well _ _ _ c.check_strip.ensures c.in_ok-counts.was).long

pub returns-then-not-finite_box : goal.returns-then-not-finite_box
returns-then-not-finite_box c =
    let w = well _ _ _ c.check_strip.ensures c.in_ok-counts.was in
    rw (w.is, sym c.finite_box.ensures ∙ c.if-not-finite_box.true) (ap refusal_of c.from.ensures)

pub returns : goal.returns
returns c =
    let w = well _ _ _ c.check_strip.ensures c.in_ok-counts.was in
    takes _ w (sym c.finite_box.ensures ∙ c.if-not-finite_box.false)

pub returns-in_err-counts : goal.returns-in_err-counts
returns-in_err-counts c =
    let p = err_from_is_err_and c.from_residual.result c.from_residual.ensures.1 in
    rw (not_well _ _ _ c.check_strip.ensures c.in_err-counts.was, p.1, p.2)
