-- `write_replay::stays_from` meets its contract. The loop's invariant: the bytes passed are as they were.
use mathlib.Core.Bool.{false≢true}
use native.Mathlib.Omega.{arith}
use borrow.Author.Count.{below_more}
use Rattle.write_replay.proofs.stays_from.Goals as goal

pub loop-k-init : goal.loop-k-init
loop-k-init c = (omega arith, λ j l g. absurd (omega arith))

pub bounds-pages-k : goal.bounds-pages-k
bounds-pages-k c = omega arith

pub returns-then-pages-k : goal.returns-then-pages-k
returns-then-pages-k c = λ h. absurd (false≢true h)

pub loop-k-preserved : goal.loop-k-preserved
loop-k-preserved c = (omega arith, below_more _ _ c.loop-k.invariant.1 (λ g. c.if-pages-k.false))

pub returns : goal.returns
returns c = λ h j g l. c.loop-k.invariant.1 j (omega arith) g
