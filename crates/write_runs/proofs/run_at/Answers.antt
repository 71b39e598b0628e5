-- `write_runs::run_at` meets its contract, by whether a word is given.
use native.Mathlib.Omega.{arith}
use Rattle.write_runs.proofs.Made.{run_without, run_with}
use Rattle.write_runs.proofs.run_at.Goals as goal

pub returns-then-end-words-lt4 : goal.returns-then-end-words-lt4
returns-then-end-words-lt4 c = run_without _ _ _ _ (cc) c.end_of-end.ensures.start c.end_of-end.ensures.bound c.if-end-words-lt4.true

pub returns : goal.returns
returns c = run_with _ _ _ _ (cc) c.end_of-end.ensures.start c.end_of-end.ensures.bound _ c.if-end-words-lt4.false (omega arith) (cc)
