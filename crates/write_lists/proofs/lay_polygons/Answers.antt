-- `write_lists::lay_polygons` meets its contract: front, records and offsets, each laid out behind the one before.
use Rattle.write_blocks.proofs.Lists.{front_room, items_room, list_laid}
use Rattle.strip.specs.Rows.{polygons_at}
use Rattle.write_pages.proofs.Sizes.{wide_polygons}
use Rattle.write_polygons.specs.Records.{start, records_at}
use Rattle.write_polygons.proofs.Records.{length_records, standing_start}
use Rattle.fields.specs.Sizes.{list_vft_polys}
use Rattle.write_lists.proofs.lay_polygons.Goals as goal

pub lay_records-offsets-requires : goal.lay_records-offsets-requires
lay_records-offsets-requires c =
    let a = c.args in
    (standing_start a.strip.now a.sides.now a.n c.requires.0 c.requires.1, front_room list_vft_polys 48 a.n c.requires.2 c.lay_list_front-parts.ensures)

pub lay_offsets-requires : goal.lay_offsets-requires
lay_offsets-requires c =
    let a = c.args in
    let s = a.strip.now in
    items_room list_vft_polys 48 a.n (records_at a.area_id s start a.n) c.requires.2 (wide_polygons a.area_id 0 0 0 (polygons_at s 14 a.n)) (length_records a.area_id s start a.n) c.lay_list_front-parts.ensures c.lay_records-offsets.ensures

pub returns : goal.returns
returns c =
    let a = c.args in
    let s = a.strip.now in
    list_laid list_vft_polys 48 a.n (records_at a.area_id s start a.n) (length_records a.area_id s start a.n) c.lay_list_front-parts.ensures c.lay_records-offsets.ensures c.lay_offsets.ensures
