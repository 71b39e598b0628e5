-- `fill_polygons` meets its contract. What pass one knew makes pass two's call legal, and its words are the cell's (proofs/Fills).
use Rattle.ynv_read.proofs.Fills.{may_put, polys_put}
use Rattle.ynv_read.proofs.fill_polygons.Goals as goal

pub links_of-requires : goal.links_of-requires
links_of-requires c = c.requires.given.header_is

pub put_polygons-requires : goal.put_polygons-requires
put_polygons-requires c = let w = may_put c.args.reader.system.now c.args.reader.graphics.now c.requires.given c.frame.ensures c.list_addresses-a.ensures c.list_table.ensures c.list_table-2.ensures c.list_table-3.ensures c.list_table-polys.ensures c.links_of.ensures c.requires.lists_ready in record { readable = w.0; passed = w.1 }

pub returns : goal.returns
returns c = let w = polys_put c.args.reader.system.now c.args.reader.graphics.now c.requires.given c.frame.ensures c.list_addresses-a.ensures c.list_table.ensures c.list_table-2.ensures c.list_table-3.ensures c.list_table-polys.ensures c.links_of.ensures c.args.strip.now (c.put_polygons.ensures.next, c.put_polygons.ensures.content) in record { next = w.0; content = w.1 }
