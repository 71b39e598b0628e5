-- `write_header::put_header` meets its contract: the three runs are one. Assumes nothing.
use Rattle.cell_record.specs.Record.{head_by}
use Rattle.areas.specs.Tables.{area_ids}
use Rattle.write_header.specs.Front.{places_in, counts_in}
use Rattle.write_header.proofs.Records.{header_runs}
use Rattle.write_header.proofs.put_header.Goals as goal

pub returns : goal.returns
returns c =
    let a = c.args in
    header_runs (head_by a.cell) (places_in a.a) (counts_in a.n) (area_ids a.areas) _ _ _ _ c.put_first.ensures c.put_areas.ensures c.put_last.ensures
