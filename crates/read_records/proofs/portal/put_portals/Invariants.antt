-- `put_portals` meets its contract. Invariant: what is left of the portals, stored from here on, gives what is promised.
use mathlib.Core.Path.{◌≡◌}
use mathlib.Core.List.{map}
use Prim.Native.Nat.{◌+◌, ◌-◌, ◌*◌}
use lib.ListN.{drop}
use Rattle.fields.specs.Bytes.{cut}
use Rattle.fields.specs.Put.{put}
use Rattle.strip.specs.Cell.{each, portal_words}
use Rattle.read_grammar.specs.Derives.{portal_of}
use Rattle.read_records.specs.Back.{back_by}
use Rattle.read_records.proofs.portal.put_portals.Given as goal

abbrev pub invariant-loop-i : goal.invariant-loop-i
invariant-loop-i l =
    put (l.at + 11 * l.i) (each portal_words (map (portal_of (back_by l.frame.bb_min l.frame.bb_size)) (cut 28 (l.n - l.i) (drop (28 * l.i) l.portals)))) l.strip
    ≡ put l.at (each portal_words (map (portal_of (back_by l.frame.bb_min l.frame.bb_size)) (cut 28 l.n l.portals))) l.initial.strip
