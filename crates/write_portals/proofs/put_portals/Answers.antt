-- `write_portals::put_portals` meets its contract: a turn stores one portal. Assumes nothing.
use Rattle.std.proofs.Common.{◌≡◌, ◌+◌, ◌*◌, ◌∙◌, arith}
use Rattle.write_portals.proofs.Turns.{portal_turn, portals_done}
use Rattle.write_portals.proofs.put_portals.Goals as goal

pub loop-i-preserved : goal.loop-i-preserved
loop-i-preserved c =
    let a = c.args in
    let l = c.loop-i in
    let to : a.start + 28 * (l.i + 1) ≡ a.start + 28 * l.i + 28 = omega arith in
    let at : a.first + 11 * (l.i + 1) ≡ a.first + 11 * l.i + 11 = omega arith in
    rw (to, at) (portal_turn a.frame.bb_min a.frame.bb_size a.strip.now (a.start + 28 * l.i) (a.first + 11 * l.i) l.i a.n c.loop-i-test.true l.out _ c.put_portal.ensures ∙ l.invariant)

pub returns : goal.returns
returns c = portals_done _ _ _ _ _ _ _ c.loop-i-test.false _ ∙ c.loop-i.invariant
