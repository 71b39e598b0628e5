-- `write_replay::bytes_agree` meets its contract. The loop's invariant: the bytes passed agree.
use mathlib.Core.Bool.{false≢true}
use native.Mathlib.Omega.{arith}
use borrow.Author.Count.{below_none, below_more}
use Rattle.write_replay.proofs.bytes_agree.Goals as goal

pub returns-then-pages-expected : goal.returns-then-pages-expected
returns-then-pages-expected c = λ h. absurd (false≢true h)

pub loop-k-init : goal.loop-k-init
loop-k-init c = (omega arith, omega arith, below_none _)

pub bounds-pages-k : goal.bounds-pages-k
bounds-pages-k c = omega arith

pub bounds-expected-k : goal.bounds-expected-k
bounds-expected-k c = omega arith

pub returns-then-pages-k : goal.returns-then-pages-k
returns-then-pages-k c = λ h. absurd (false≢true h)

pub loop-k-preserved : goal.loop-k-preserved
loop-k-preserved c = (omega arith, omega arith, below_more _ _ c.loop-k.invariant.2 c.if-pages-k.false)

pub returns : goal.returns
returns c = λ h. record { long = c.loop-k.invariant.1; same = λ j l. c.loop-k.invariant.2 j (omega arith) }
