-- `seams::count_seams` meets its contract: what `check_strip` ensures gives the cell and where its polygons stand (`well`).
use mathlib.Core.Path.{ap}
use native.Mathlib.Omega.{arith}
use Rattle.std.proofs.lemmas.Result.{err_from_is_err_and}
use Rattle.strip.specs.Reading.{head_at}
use Rattle.strip.specs.Outcome.{values}
use Rattle.strip.proofs.Laid.{well, not_well}
use Rattle.seams.proofs.count_seams.Goals as goal

pub bounds-strip-2 : goal.bounds-strip-2
bounds-strip-2 c =
    let w = well _ _ _ c.check_strip.ensures c.in_ok-counts.was in
    omega (arith, w.long)

pub poly_seams-requires : goal.poly_seams-requires
poly_seams-requires c =
    let w = well _ _ _ c.check_strip.ensures c.in_ok-counts.was in
    omega (arith, w.length_is)

pub returns : goal.returns
unfolding head_at
returns c =
    let w = well _ _ _ c.check_strip.ensures c.in_ok-counts.was in
    rw w.is (ap values c.poly_seams.ensures)

pub returns-in_err-counts : goal.returns-in_err-counts
returns-in_err-counts c =
    let p = err_from_is_err_and c.from_residual.result c.from_residual.ensures.1 in
    rw (not_well _ _ _ c.check_strip.ensures c.in_err-counts.was, p.1, p.2)
