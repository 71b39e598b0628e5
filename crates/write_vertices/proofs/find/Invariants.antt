-- `write_vertices::find` meets its contract. The invariant, `Walking`: a vertex with the triple is still ahead.
-- The measure falls since a child has a greater number than its vertex.
use Rattle.write_vertices.proofs.Walking.{Walking, beyond}
use Rattle.write_vertices.proofs.find.Given as goal

abbrev pub invariant-loop-p : goal.invariant-loop-p
invariant-loop-p l = Walking l.table l.buckets l.count l.triple l.place l.p l.key

abbrev pub decreases-loop-p : goal.decreases-loop-p
decreases-loop-p l = beyond l.count l.p
