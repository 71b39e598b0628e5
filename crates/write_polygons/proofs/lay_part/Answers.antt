-- `write_polygons::lay_part` meets its contract: zeros up to the place, then the records.
use Rattle.write_blocks.proofs.Layouts.{laid_block}
use Rattle.write_polygons.proofs.Records.{records_long}
use Rattle.write_polygons.proofs.lay_part.Goals as goal

pub returns : goal.returns
returns c =
    let a = c.args in
    record {
      cursor = c.put_records-next.ensures.cursor;
      laid = laid_block (records_long a.own a.strip.now a.c a.m) c.pad-place.ensures.start c.pad-place.ensures.out c.put_records-next.ensures.stored c.alloc.ensures;
    }
