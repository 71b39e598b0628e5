-- `quantise::short::is_outside` meets its contract: the two tests in the other order. Assumes nothing.
use mathlib.Core.Path.{◌≡◌, ◌∙◌, sym}
use mathlib.Core.Bool.{true, false, not}
use lib.Ieee.{lt}
use Rattle.quantise.specs.Short.{fraction, magnitude, least, beyond, outside}
use Rattle.quantise.proofs.Outside.{and_true, and_false}
use Rattle.quantise.proofs.short.is_outside.Goals as goal

pub returns-then-is_beyond : goal.returns-then-is_beyond
unfolding outside
returns-then-is_beyond c =
    let a = c.args in
    let far : beyond (fraction a.a a.lo a.extent) ≡ true = rw (c.is_beyond.ensures, c.fraction-t.ensures) at c.if-is_beyond.true in
    rw (c.is_small.ensures, far) (sym (and_true (not (lt (magnitude a.extent) least))))

pub returns-else-is_beyond : goal.returns-else-is_beyond
unfolding outside
returns-else-is_beyond c =
    let a = c.args in
    let near : beyond (fraction a.a a.lo a.extent) ≡ false = rw (c.is_beyond.ensures, c.fraction-t.ensures) at c.if-is_beyond.false in
    c.if-is_beyond.false ∙ rw (near) (sym (and_false (not (lt (magnitude a.extent) least))))
