-- `read_polygon_tally::check_run` meets its contract. The loop's invariant: the words so far, and those of what is left, make the whole tally.
use native.Mathlib.Omega.{arith}
use mathlib.Core.Path.{sym, ◌∙◌}
use borrow.Author.Rules.{rules}
use Rattle.std.proofs.lemmas.Result.{err_from_is_err_and}
use Rattle.read_polygon_tally.proofs.Tallies.{run_begin, run_more, run_stop, run_end}
use Rattle.read_polygon_tally.proofs.check_run.Goals as goal

pub loop-k-init : goal.loop-k-init
loop-k-init c = (search rules, c.requires.1, search rules, run_begin _ _ _ _ _)

pub check_polygon-requires : goal.check_polygon-requires
check_polygon-requires c = (c.requires.0, c.loop-k.invariant.1, c.requires.2)

pub returns-in_err-more : goal.returns-in_err-more
returns-in_err-more c =
    let turn = c.loop-k in
    let p = err_from_is_err_and c.from_residual.result c.from_residual.ensures.1 in
    rw (p.1, p.2) (sym (run_stop _ _ _ _ _ turn.k turn.words c.loop-k-test.true (omega arith) c.in_err-more.ensures ∙ turn.invariant.3))

pub overflow_add-words : goal.overflow_add-words
overflow_add-words c =
    let h = c.in_ok-more.ensures in
    omega (arith, h.2, c.loop-k.invariant.2, c.loop-k-test.true, c.requires.4)

pub loop-k-preserved : goal.loop-k-preserved
loop-k-preserved c =
    let turn = c.loop-k in
    let h = c.in_ok-more.ensures in (
      omega (arith, c.loop-k-test.true),
      h.1,
      omega (arith, h.2, turn.invariant.2),
      run_more _ _ _ _ _ turn.k turn.words c.loop-k-test.true (omega arith) h.0 ∙ turn.invariant.3,
    )

pub returns : goal.returns
returns c =
    let turn = c.loop-k in
    let test = c.loop-k-test.false in
    (sym (run_end _ _ _ _ _ turn.k turn.words test ∙ turn.invariant.3), turn.invariant.1, omega (arith, turn.invariant.2, turn.invariant.0))
