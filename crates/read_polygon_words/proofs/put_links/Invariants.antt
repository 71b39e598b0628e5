-- `read_polygon_words::put_links` meets its contract. The loop's invariant: storing what is left from here gives what is promised.
use Prim.Native.Nat.{◌+◌}
use mathlib.Core.Path.{◌≡◌}
use lib.ListN.{drop}
use Rattle.fields.specs.Put.{put}
use Rattle.read_grammar.specs.Polygons.{link_run}
use Rattle.read_polygon_words.specs.Words.{link_start, links_named}
use Rattle.read_polygon_words.specs.Front.{links_of}
use Rattle.read_polygon_words.proofs.put_links.Given as goal

abbrev pub invariant-loop-k : goal.invariant-loop-k
invariant-loop-k l =
    put (l.at + l.k) (drop l.k (link_run (links_of l.links) (link_start l.rec) (links_named l.rec))) l.out
    ≡ put l.at (link_run (links_of l.links) (link_start l.rec) (links_named l.rec)) l.initial.out
