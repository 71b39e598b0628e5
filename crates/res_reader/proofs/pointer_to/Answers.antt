-- `res_reader::pointer_to` meets its contract: each return is one case of `pointer_to`.
use mathlib.Core.Path.{◌≡◌, sym, ◌∙◌}
use mathlib.Core.Bool.{true, false}
use borrow.Author.Rules.{rules}
use borrow.Author.Tests.{eq-eqb, ne_eqb}
use Rattle.res_reader.specs.Looked.{pointer_to}
use Rattle.res_reader.proofs.pointer_to.Goals as goal

pub returns-then-va-eq0 : goal.returns-then-va-eq0
unfolding pointer_to
returns-then-va-eq0 c = rw (eq-eqb _ 0 c.if-va-eq0.true)

pub returns-then-not-is_good : goal.returns-then-not-is_good
unfolding pointer_to
returns-then-not-is_good c =
    let bad : c.is_good.result ≡ false = search rules in
    rw (ne_eqb _ 0 c.if-va-eq0.false, sym c.is_good.ensures ∙ bad)

pub returns : goal.returns
unfolding pointer_to
returns c =
    let fine : c.is_good.result ≡ true = search rules in
    rw (ne_eqb _ 0 c.if-va-eq0.false, sym c.is_good.ensures ∙ fine)
