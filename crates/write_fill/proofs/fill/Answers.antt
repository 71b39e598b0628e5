-- `write_fill::fill` meets its contract: the lists, the rest behind them and the header, stored last, are the cell's pages (`filled`), and the points are counted by the sectors. Assumes nothing.
use Rattle.write_ends.proofs.Planned.{link_count}
use Rattle.write_fill.proofs.Whole.{near, few, filled}
use Rattle.write_fill.proofs.fill.Goals as goal

pub fill_lists-lists-requires : goal.fill_lists-lists-requires
fill_lists-lists-requires c = c.requires.0

pub fill_rest-rest-requires : goal.fill_rest-rest-requires
fill_rest-rest-requires c =
    let listed = c.fill_lists-lists.ensures in
    let R = c.requires.0 in
    (listed.work.kept, link_count c.args.strip.now c.args.work.now c.args.d R, listed.pages.polygons, R.tabled.cell)

pub addresses-a-requires : goal.addresses-a-requires
addresses-a-requires c = near c.args.strip.now c.args.work.now c.args.d c.requires.0 c.fill_lists-lists.ensures.pages c.fill_rest-rest.ensures

pub totals-n-requires : goal.totals-n-requires
totals-n-requires c = few c.args.strip.now c.args.work.now c.args.d c.requires.0 c.args.bytes c.requires.1

pub returns : goal.returns
returns c =
    let listed = c.fill_lists-lists.ensures in
    let rest = c.fill_rest-rest.ensures in
    record {
      pages = filled c.args.strip.now c.args.work.now c.args.d c.requires.0 listed.pages rest (λ k. (c.shared_slice_known-1.given k).fits) listed.work _ c.addresses-a.ensures _ c.requires.1 _ c.totals-n.ensures c.put_header.ensures;
      points = rest.points;
    }
