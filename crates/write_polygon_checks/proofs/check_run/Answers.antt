-- `write_polygon_checks::check_run` meets its contract: each test is one of the two faults in order, met by arithmetic.
use native.Mathlib.Omega.{arith}
use mathlib.Core.Path.{refl}
use borrow.Author.Tests.{lt-ltb, le-ltb}
use Rattle.write_pages.specs.Checks.{first_fault}
use Rattle.write_corner_checks.proofs.Faults.{passes, refuses}
use Rattle.strip.specs.declared.Reason.TheVariants.{VertexCount, VertexStart}
use Rattle.write_polygon_checks.proofs.check_run.Goals as goal
use Rattle.write_polygon_checks.proofs.check_run.Goals.{then-vertices-lt3-via-then-vertices-lt3, then-vertices-lt3-via-else-vertices-lt3+then-vertices-gt2047}

pub returns-then-vertices-lt3 : goal.returns-then-vertices-lt3
unfolding first_fault
returns-then-vertices-lt3 c =
    let a = c.args in
    elim c.then-vertices-lt3.branch [
      | then-vertices-lt3-via-then-vertices-lt3 w ↦ refuses {A = Unit {0}} _ _ VertexCount refl (rw (lt-ltb a.vertices 3 w.if-vertices-lt3.true)) (λ z. omega arith)
      | then-vertices-lt3-via-else-vertices-lt3+then-vertices-gt2047 w ↦
          refuses {A = Unit {0}} _ _ VertexCount refl (rw (le-ltb a.vertices 3 w.if-vertices-lt3.false, lt-ltb 2047 a.vertices w.if-vertices-gt2047.true)) (λ z. omega arith)
    ]

pub returns-then-start-gt65535 : goal.returns-then-start-gt65535
unfolding first_fault
returns-then-start-gt65535 c =
    let a = c.args in
    refuses {A = Unit {0}} _ _ VertexStart refl (rw (le-ltb a.vertices 3 c.if-vertices-lt3.false, le-ltb 2047 a.vertices c.if-vertices-gt2047.false, lt-ltb 65535 a.start c.if-start-gt65535.true)) (λ z. omega arith)

pub returns : goal.returns
unfolding first_fault
returns c =
    let a = c.args in
    passes {A = Unit {0}} _ _ tt refl (rw (le-ltb a.vertices 3 c.if-vertices-lt3.false, le-ltb 2047 a.vertices c.if-vertices-gt2047.false, le-ltb 65535 a.start c.if-start-gt65535.false))
