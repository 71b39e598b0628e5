-- `quantise::short::Frame::quantise` meets its contract, axis by axis. Assumes nothing.
use native.Mathlib.Omega.{arith}
use Rattle.quantise.specs.Short.{outside_count}
use Rattle.quantise.proofs.Outside.{byte_one}
use Rattle.quantise.proofs.short.Frame.quantise.Goals as goal

pub returns-clause-outside : goal.returns-clause-outside
unfolding outside_count
returns-clause-outside c =
    let x = c.quantise_axis-x in
    let y = c.quantise_axis-y in
    let z = c.quantise_axis-z in
    rw (← x.ensures.outside, ← y.ensures.outside, ← z.ensures.outside)
    (omega (arith, c.from.ensures, c.from-2.ensures, c.from-3.ensures, byte_one x.result.outside, byte_one y.result.outside, byte_one z.result.outside))
