-- `write_portals::lay_portals` meets its contract: zeros up to the place, then the portals, if there is one. Assumes nothing.
use mathlib.Core.Path.{◌≡◌}
use Prim.Native.Nat.{◌*◌}
use native.Mathlib.Omega.{arith}
use lib.ListN.{length}
use Rattle.fields.specs.Bytes.{cat}
use Rattle.strip.specs.Rows.{portals_at}
use Rattle.write_pages.specs.Pages.{portal_items}
use Rattle.write_blocks.proofs.Optional.{some_below, laid_nothing, laid_some}
use Rattle.write_portals.proofs.Turns.{portals_long}
use Rattle.write_portals.proofs.lay_portals.Goals as goal

pub returns-then-n-eq0 : goal.returns-then-n-eq0
returns-then-n-eq0 c =
    let a = c.args in
    let bs = cat (portal_items a.frame.bb_min a.frame.bb_size (portals_at a.strip.now a.first a.n)) in
    let long : length bs ≡ 28 * a.n = portals_long a.frame.bb_min a.frame.bb_size a.strip.now a.first a.n in
    laid_nothing _ bs _ (omega (arith, long, c.if-n-eq0.true))

pub pad-start-requires : goal.pad-start-requires
pad-start-requires c = some_below _ _ (omega (arith, c.if-n-eq0.false)) c.requires.1

pub put_portals-requires : goal.put_portals-requires
put_portals-requires c = (c.requires.0, rw c.pad-start.ensures.start (some_below _ _ (omega (arith, c.if-n-eq0.false)) c.requires.1))

pub alloc-requires : goal.alloc-requires
alloc-requires c = some_below _ _ (omega (arith, c.if-n-eq0.false)) c.requires.1

pub returns : goal.returns
returns c =
    let a = c.args in
    let bs = cat (portal_items a.frame.bb_min a.frame.bb_size (portals_at a.strip.now a.first a.n)) in
    let long : length bs ≡ 28 * a.n = portals_long a.frame.bb_min a.frame.bb_size a.strip.now a.first a.n in
    laid_some bs long (omega (arith, c.if-n-eq0.false)) c.pad-start.ensures.start c.pad-start.ensures.out c.put_portals.ensures c.alloc.ensures
