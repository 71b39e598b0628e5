-- `read_edge_words::area_of` meets its contract: by the test against the area count: an index below it is looked up (`area_in`), any other gives none (`area_none`).
use Rattle.read_edge_words.proofs.Edges.{area_in, area_none}
use Rattle.read_edge_words.proofs.area_of.Goals as goal

pub returns-then-i-u32_le : goal.returns-then-i-u32_le
returns-then-i-u32_le c = area_in _ c.u32_le.ensures c.if-i-u32_le.true c.u32_le-then-i-u32_le.ensures

pub returns-else-i-u32_le : goal.returns-else-i-u32_le
returns-else-i-u32_le c = area_none _ c.u32_le.ensures c.if-i-u32_le.false
