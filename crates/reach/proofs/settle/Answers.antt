-- `reach::settle` meets its contract: the turns so far are a row of steps, and those that are seen grow in number while there are turns.
use borrow.Author.Rules.{rules}
use mathlib.Core.Path.{◌≡◌, refl}
use native.Mathlib.Omega.{arith}
use Rattle.reach_walk.specs.Walk.{same}
use Rattle.reach_walk.proofs.Work.{known_still}
use Rattle.reach.proofs.Settling.{turn_worked, turn_less, turn_last}
use Rattle.reach.proofs.settle.Goals as goal

pub loop-count-init : goal.loop-count-init
loop-count-init c = (c.count_marks-count.ensures, refl, same)

pub sweep-requires : goal.sweep-requires
sweep-requires c = known_still _ _ c.loop-count.invariant.1 c.before.requires

pub portal_pass-requires : goal.portal_pass-requires
portal_pass-requires c = c.before.requires.inside

pub returns-then-next-count : goal.returns-then-next-count
returns-then-next-count c =
    let l = c.loop-count in
    let no_more : c.count_marks-next.result ≡ l.count = omega (arith, c.if-next-count.true) in
    turn_last _ _ _ _ _ _ _ _ l.invariant.2 c.sweep.ensures c.portal_pass.ensures l.invariant.0 c.count_marks-next.ensures no_more

pub loop-count-smaller : goal.loop-count-smaller
loop-count-smaller c =
    let l = c.loop-count in
    turn_less _ _ _ _ _ _ _ _ l.invariant.2 c.sweep.ensures c.portal_pass.ensures l.invariant.0 c.count_marks-next.ensures (λ e. c.if-next-count.false (omega (arith, e)))

pub loop-count-preserved : goal.loop-count-preserved
loop-count-preserved c =
    let l = c.loop-count in
    (c.count_marks-next.ensures, search rules, turn_worked _ _ _ _ _ _ _ _ l.invariant.2 c.sweep.ensures c.portal_pass.ensures l.invariant.0 c.count_marks-next.ensures)
