-- `write_rest::fill_rest` meets its contract: sectors, portals and links are laid one behind the other, the portals from `first_portal` on. Assumes nothing.
use Rattle.strip.specs.Reading.{head_at}
use Rattle.cell_record.proofs.Fields.{min_is, size_is}
use Rattle.write_rest.proofs.Rest.{portals_ask, links_ask, rest_filled}
use Rattle.write_rest.proofs.fill_rest.Goals as goal

pub fill_sectors-cursor-requires : goal.fill_sectors-cursor-requires
fill_sectors-cursor-requires c = (c.requires.0, c.requires.2, c.requires.3)

pub first_portal-requires : goal.first_portal-requires
first_portal-requires c = c.requires.0.length_is

pub lay_portals-portals-requires : goal.lay_portals-portals-requires
lay_portals-portals-requires c = portals_ask c.args.strip.now c.args.work.now c.args.d.counts c.requires.0 c.fill_sectors-cursor.ensures _ c.first_portal.ensures

pub lay_links-links-requires : goal.lay_links-links-requires
lay_links-links-requires c =
    let s = c.args.strip.now in
    let cell = c.args.d.cell in
    links_ask s c.args.work.now c.args.d.counts c.requires.0 c.fill_sectors-cursor.ensures _ c.first_portal.ensures _ _ (min_is (head_at s 0) cell c.requires.3) (size_is (head_at s 0) cell c.requires.3) (rw c.frame.ensures at c.lay_portals-portals.ensures) _ c.requires.1

pub returns : goal.returns
returns c =
    let s = c.args.strip.now in
    let cell = c.args.d.cell in
    rest_filled s c.args.work.now c.args.d.counts c.requires.0 c.fill_sectors-cursor.ensures _ c.first_portal.ensures _ _ (min_is (head_at s 0) cell c.requires.3) (size_is (head_at s 0) cell c.requires.3) (rw c.frame.ensures at c.lay_portals-portals.ensures) c.lay_links-links.ensures
