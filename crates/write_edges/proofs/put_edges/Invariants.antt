-- `write_edges::put_edges` meets its contract. The invariant, `Edging`: the edges of the polygons that are left, stored from here, make the whole.
use lib.ListN.{take}
use Rattle.strip.specs.Reading.{head_at}
use Rattle.write_pages.specs.Items.{floats}
use Rattle.write_edges.proofs.Halves.{Edging}
use Rattle.write_edges.proofs.put_edges.Given as goal

abbrev pub invariant-loop-i : goal.invariant-loop-i
invariant-loop-i l = Edging l.strip (floats (head_at l.strip 0).bb_min) (floats (head_at l.strip 0).bb_size) l.n (take l.len l.ids) l.base l.initial.work l.work l.at l.place l._i
