-- `pick_contains::crossed` meets its contract: the two tests of the definition, in its order.
use borrow.Author.Tests.{le-leb, lt-leb}
use Rattle.pick_contains.specs.Inside.{crossed}
use Rattle.pick_contains.proofs.crossed.Goals as goal

pub returns-in-true-false : goal.returns-in-true-false
unfolding crossed
returns-in-true-false c =
    let a = c.args in
    rw (le-leb a.a.y a.s.y c.in-true-false.is-0, lt-leb a.b.y a.s.y c.in-true-false.is-1) c.left_of_side.ensures

pub returns-in-false-true : goal.returns-in-false-true
unfolding crossed
returns-in-false-true c =
    let a = c.args in
    rw (lt-leb a.a.y a.s.y c.in-false-true.is-0, le-leb a.b.y a.s.y c.in-false-true.is-1) c.left_of_side-in-false-true.ensures

pub returns-in_default : goal.returns-in_default
unfolding crossed
returns-in_default c =
    let a = c.args in
    rw (le-leb a.a.y a.s.y c.in_default.is-0, le-leb a.b.y a.s.y c.in_default.is-1)

pub returns-in_default-2 : goal.returns-in_default-2
unfolding crossed
returns-in_default-2 c =
    let a = c.args in
    rw (lt-leb a.a.y a.s.y c.in_default.is-0, lt-leb a.b.y a.s.y c.in_default.is-1)
