-- `write_blocks::address_of` meets its contract: a block that there is stands below 2^28, so that its address is the system section's.
use Rattle.std.proofs.Common.{◌≡◌, sym, ap, ◌∙◌, arith}
use Rattle.write_blocks.specs.Layout.{address}
use Rattle.write_blocks.specs.Optional.{address_of}
use Rattle.write_blocks.proofs.Optional.{address_some, some_below}
use Rattle.write_blocks.proofs.address_of.Goals as goal

pub start-requires : goal.start-requires
start-requires c = some_below c.args.l.at c.args.size (omega (arith, c.if-size-gt0.true)) c.requires

pub address-requires : goal.address-requires
address-requires c = omega (arith, some_below c.args.l.at c.args.size (omega (arith, c.if-size-gt0.true)) c.requires, c.start.ensures)

pub returns-then-size-gt0 : goal.returns-then-size-gt0
returns-then-size-gt0 c = c.address.ensures ∙ ap address c.start.ensures ∙ sym (address_some c.args.l.at c.args.size (omega (arith, c.if-size-gt0.true)))

pub returns : goal.returns
returns c =
    let none : 0 ≡ c.args.size = omega (arith, c.if-size-gt0.false) in
    ap (address_of c.args.l.at) none
