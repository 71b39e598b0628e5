-- `write_edges::put_run` meets its contract. The invariant, `Halving`: the edges that are left, stored from here, make the whole. No word of an edge
-- depends on where the vertices stand, so it holds wherever that is.
use Prim.Native.Nat.{ℕ}
use lib.ListN.{take}
use Rattle.strip.specs.Reading.{head_at}
use Rattle.write_pages.specs.Items.{floats}
use Rattle.write_edges.proofs.Halves.{Halving}
use Rattle.write_edges.proofs.put_run.Given as goal

abbrev pub invariant-loop-i : goal.invariant-loop-i
invariant-loop-i l = (v₀ : ℕ) → Halving l.strip (floats (head_at l.strip 0).bb_min) (floats (head_at l.strip 0).bb_size) l.p.vertices l.edges v₀ l.p.edge_at (take l.len l.ids) l.base l.initial.work l.work l.i
