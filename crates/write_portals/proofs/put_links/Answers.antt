-- `write_portals::put_links` meets its contract. The invariant, `Linking`: the links that are left, stored from here, make the whole. Assumes nothing.
use Rattle.write_portals.proofs.Turns.{link_in, linking_start, link_next, link_room, linking_turn, linking_done}
use native.Mathlib.Omega.{arith}
use Rattle.strip.proofs.Steps.{parts}
use Rattle.write_portals.proofs.put_links.Goals as goal

pub loop-init : goal.loop-init
loop-init c = linking_start _ _ _ _ c.requires.0

pub poly_at-p-requires : goal.poly_at-p-requires
poly_at-p-requires c = omega (arith, link_in _ _ _ _ _ _ _ _ c.loop.invariant c.loop-test.true)

pub offset_bounds-strip-p : goal.offset_bounds-strip-p
offset_bounds-strip-p c = omega (arith, parts _ _ _ c.poly_at-p.ensures, link_next _ _ _ _ _ _ _ _ c.loop.invariant c.loop-test.true _ c.poly_at-p.ensures, c.well_formed)

pub slice_bounds-put_all-count : goal.slice_bounds-put_all-count
slice_bounds-put_all-count c = omega (arith, parts _ _ _ c.poly_at-p.ensures)

pub slice_bounds-put_all-start : goal.slice_bounds-put_all-start
slice_bounds-put_all-start c = omega (arith, parts _ _ _ c.poly_at-p.ensures)

pub slice_bounds-put_all-end : goal.slice_bounds-put_all-end
slice_bounds-put_all-end c = omega (arith, parts _ _ _ c.poly_at-p.ensures, link_next _ _ _ _ _ _ _ _ c.loop.invariant c.loop-test.true _ c.poly_at-p.ensures)

pub overflow_mul-to : goal.overflow_mul-to
overflow_mul-to c = omega (arith, link_room _ _ _ _ _ _ _ _ c.loop.invariant c.loop-test.true _ c.poly_at-p.ensures, c.requires.1)

pub overflow_add-to : goal.overflow_add-to
overflow_add-to c = omega (arith, link_room _ _ _ _ _ _ _ _ c.loop.invariant c.loop-test.true _ c.poly_at-p.ensures, c.requires.1)

pub loop-preserved : goal.loop-preserved
loop-preserved c = linking_turn _ _ _ _ _ _ _ _ c.loop.invariant c.loop-test.true _ c.poly_at-p.ensures _ c.put_all.ensures

pub returns : goal.returns
returns c = linking_done _ _ _ _ _ _ _ _ c.loop.invariant c.loop-test.false
