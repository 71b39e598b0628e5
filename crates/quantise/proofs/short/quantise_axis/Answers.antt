-- `quantise::short::quantise_axis` meets its contract, from what the functions that it calls ensure. Assumes nothing.
use mathlib.Core.Path.{◌≡◌, sym, ◌∙◌, ap}
use mathlib.Core.Bool.{true, false}
use lib.Ieee.{Float, binary32, mul, of_bits}
use lib.Ieee.Fits.{div-fits}
use Rattle.quantise.specs.Short.{short, fraction, most, beyond, outside}
use Rattle.quantise.specs.Steps.{rounded_u16, border_of}
use Rattle.quantise.proofs.Capped.{uncapped}
use Rattle.quantise.proofs.Outside.{beyond_short, within_stays}
use Rattle.quantise.proofs.short.quantise_axis.Goals as goal

-- the extent is small
pub returns-then-is_small : goal.returns-then-is_small
unfolding short outside
returns-then-is_small c =
    let small = sym c.is_small.ensures ∙ c.if-is_small.true in record {
      short = rw (small);
      outside = rw (small);
    }

-- it isn't, and the fraction is beyond
pub returns-then-is_beyond : goal.returns-then-is_beyond
unfolding short outside
returns-then-is_beyond c =
    let a = c.args in
    let t = fraction a.a a.lo a.extent in
    let large = sym c.is_small.ensures ∙ c.if-is_small.false in
    let far : beyond t ≡ true = rw (c.is_beyond.ensures, c.fraction-t.ensures) at c.if-is_beyond.true in
    record {
      short = rw (large) (c.border_of.ensures ∙ ap border_of c.fraction-t.ensures ∙ sym (beyond_short t far));
      outside = rw (large, far);
    }

-- it isn't
pub returns : goal.returns
unfolding short outside fraction of_bits
returns c =
    let a = c.args in
    let t = fraction a.a a.lo a.extent in
    let large = sym c.is_small.ensures ∙ c.if-is_small.false in
    let near : beyond t ≡ false = rw (c.is_beyond.ensures, c.fraction-t.ensures) at c.if-is_beyond.false in record {
      short = rw (large)
          (c.round_to_u16.ensures
          ∙ ap (λ (t : Float). rounded_u16 (mul binary32 t most)) (c.fraction-t.ensures ∙ sym (within_stays t near))
          ∙ uncapped t (div-fits binary32 _ _));
      outside = rw (large, near);
    }
