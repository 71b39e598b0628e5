-- `write_vertex_index::add` meets its contract: the link is set in the half at `place`, the triple in the two words behind the table, and a new vertex has no left child (`link_stored`).
use native.Mathlib.Omega.{arith}
use lib.ListN.{length-set}
use Rattle.write_vertices.proofs.Links.{link_stored}
use Rattle.write_vertex_index.proofs.add.Goals as goal

pub linked-word-requires : goal.linked-word-requires
linked-word-requires c = (c.requires.4, omega arith)

pub bounds-table-at-2 : goal.bounds-table-at-2
bounds-table-at-2 c = simp length-set (omega arith)

pub bounds-table-place-2 : goal.bounds-table-place-2
bounds-table-place-2 c = simp length-set (omega arith)

pub returns : goal.returns
returns c = rw c.linked-word.ensures (link_stored _ _ _ _ _ _ (omega arith))
