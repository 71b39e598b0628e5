-- `write_portals::put_portals` meets its contract: the portals that are left, stored from here, make the whole. Assumes nothing.
use Rattle.std.proofs.Common.{◌≡◌, ◌+◌, ◌*◌, ◌-◌}
use Rattle.fields.specs.Bytes.{cat}
use Rattle.fields.specs.Put.{put}
use Rattle.strip.specs.Rows.{portals_at}
use Rattle.write_pages.specs.Pages.{portal_items}
use Rattle.write_portals.proofs.put_portals.Given as goal

abbrev pub invariant-loop-i : goal.invariant-loop-i
invariant-loop-i l =
    put (l.start + 28 * l.i) (cat (portal_items l.frame.bb_min l.frame.bb_size (portals_at l.strip (l.first + 11 * l.i) (l.n - l.i)))) l.out
    ≡ put l.start (cat (portal_items l.frame.bb_min l.frame.bb_size (portals_at l.strip l.first l.n))) l.initial.out
