-- `write_portals::put_links` meets its contract. The invariant, `Linking`: the links that are left, stored from here, make the whole. Assumes nothing.
use Rattle.write_portals.proofs.Turns.{Linking}
use Rattle.write_portals.proofs.put_links.Given as goal

abbrev pub invariant-loop : goal.invariant-loop
invariant-loop l = Linking l.strip l.n l.start l.initial.out l.out l.to l.at l.counter
