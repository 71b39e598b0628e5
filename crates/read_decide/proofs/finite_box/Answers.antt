-- `finite_box` meets its contract: `finite_at` tests one vector of the box; the first that fails makes the definition false, and behind two that pass it is the third.
use mathlib.Core.Path.{sym, ◌∙◌}
use Rattle.read_grammar.specs.Derives.{head_of}
use Rattle.strip.specs.Box.{finite_box}
use Rattle.read_decide.proofs.finite_box.Goals as goal
use Rattle.read_decide.proofs.finite_box.Goals.{then-finite_at, else-finite_at}

pub returns-then-finite_at-2 : goal.returns-then-finite_at-2
unfolding head_of finite_box
returns-then-finite_at-2 c =
    elim c.if-finite_at.branch [
      | then-finite_at w ↦ rw (sym c.finite_at.ensures ∙ w.if-finite_at.true, sym w.finite_at-then-finite_at.ensures ∙ sym w.value-is ∙ c.if-finite_at-2.true) c.finite_at-then-finite_at-2.ensures
      | else-finite_at w ↦ absurd (cc)
    ]

pub returns-else-finite_at-2 : goal.returns-else-finite_at-2
unfolding head_of finite_box
returns-else-finite_at-2 c =
    elim c.if-finite_at.branch [
      | then-finite_at w ↦ rw (sym c.finite_at.ensures ∙ w.if-finite_at.true, sym w.finite_at-then-finite_at.ensures ∙ sym w.value-is ∙ c.if-finite_at-2.false) c.if-finite_at-2.false
      | else-finite_at w ↦ rw (sym c.finite_at.ensures ∙ w.if-finite_at.false) c.if-finite_at-2.false
    ]
