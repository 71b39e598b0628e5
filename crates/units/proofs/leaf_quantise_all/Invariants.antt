-- `units::leaf_quantise_all` meets its contract. The loop's invariant: the shorts of the vertices passed are stored over the output.
use mathlib.Core.Path.{◌≡◌}
use lib.ListN.{length}
use Rattle.fields.specs.Put.{put}
use Rattle.units.specs.Entries.{shorts_to}
use Rattle.units.proofs.leaf_quantise_all.Given as goal

abbrev pub invariant-loop-i : goal.invariant-loop-i
invariant-loop-i l = (length l.out ≡ length l.initial.out) × (l.out ≡ put 0 (shorts_to l.vertices l.frame.bb_min l.frame.bb_size l.i) l.initial.out)
