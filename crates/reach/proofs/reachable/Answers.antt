-- `reach::reachable` meets its contract: what `check_strip` ensures gives the cell (`well`), and its polygons have a mark each.
use lib.ListN.{length, drop}
use lib.Seq.{length-take-le}
use mathlib.Core.List.{◌++◌}
use mathlib.Core.Path.{refl, sym, ap, ◌∙◌}
use Rattle.std.proofs.lemmas.Result.{err_from_is_err_and}
use native.Mathlib.Omega.{arith}
use Rattle.strip.specs.Rows.{after_polygons}
use Rattle.strip.proofs.Laid.{well, not_well}
use Rattle.reach.proofs.Deciding.{no_start, no_room, all_marked, one_each}
use Rattle.reach.proofs.reachable.Goals as goal

pub returns-then-counts-start : goal.returns-then-counts-start
returns-then-counts-start c =
    let a = c.args in
    let w = well _ _ _ c.check_strip.ensures c.in_ok-counts.was in
    rw (no_start a.strip.now a.start (length a.marks.now) _ w c.if-counts-start.true) record { answer = rw c.from.ensures; marks = refl }

pub returns-then-marks-counts : goal.returns-then-marks-counts
returns-then-marks-counts c =
    let a = c.args in
    let w = well _ _ _ c.check_strip.ensures c.in_ok-counts.was in
    rw (no_room a.strip.now a.start (length a.marks.now) _ w c.if-counts-start.false c.if-marks-counts.true) record { answer = rw c.from-then-marks-counts.ensures; marks = refl }

pub first_portal-requires : goal.first_portal-requires
first_portal-requires c = (well _ _ _ c.check_strip.ensures c.in_ok-counts.was).length_is

pub mark_all-requires : goal.mark_all-requires
mark_all-requires c =
    let a = c.args in
    let w = well _ _ _ c.check_strip.ensures c.in_ok-counts.was in
    let k = length-take-le c.in_ok-counts.counts.polys a.marks.now c.if-marks-counts.false in
    record {
      head = omega (arith, w.long);
      place = c.first_portal.ensures ∙ sym (ap (after_polygons a.strip.now 14) k);
      inside = omega (arith, c.first_portal.ensures, w.length_is);
      some = omega (arith, k);
    }

pub returns : goal.returns
returns c =
    let a = c.args in
    let n = c.in_ok-counts.counts in
    let w = well _ _ _ c.check_strip.ensures c.in_ok-counts.was in
    let k = length-take-le n.polys a.marks.now c.if-marks-counts.false in
    let t = rw (k, c.first_portal.ensures) at c.mark_all.ensures in
    let last = c.mark_all.new.marks in
    rw (all_marked a.strip.now a.start (length a.marks.now) n w c.if-counts-start.false c.if-marks-counts.false _ _ t)
    record { answer = refl; marks = ap (λ x. last ++ drop x a.marks.now) (sym (one_each a.strip.now a.start (length a.marks.now) n w c.if-counts-start.false c.if-marks-counts.false _ _ t)) }

pub returns-in_err-counts : goal.returns-in_err-counts
returns-in_err-counts c =
    let p = err_from_is_err_and c.from_residual.result c.from_residual.ensures.1 in
    rw (not_well _ _ _ c.check_strip.ensures c.in_err-counts.was) record { answer = rw (p.1, p.2); marks = refl }
