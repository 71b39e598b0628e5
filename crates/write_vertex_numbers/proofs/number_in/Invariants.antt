-- `write_vertex_numbers::number_in` meets its contract: as `number_all`, with the table as the tail of the one slice (`Parts`).
use mathlib.Core.Path.{◌≡◌}
use lib.ListN.{length, take, drop}
use Rattle.write_vertices.specs.Table.{met}
use Rattle.write_vertex_numbers.proofs.Numbering.{Going}
use Rattle.write_vertex_numbers.proofs.number_in.Given as goal

abbrev pub invariant-loop-i : goal.invariant-loop-i
invariant-loop-i l = (length l.work ≡ length l.initial.work) × Going (met l.triples 0 l.m) l.m l.buckets (drop l.m l.initial.work) (take l.m l.initial.work) (drop l.m l.work) (take l.m l.work) l.n l.i
