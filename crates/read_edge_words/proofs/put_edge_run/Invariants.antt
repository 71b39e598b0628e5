-- `read_edge_words::put_edge_run` meets its contract. The loop's invariant: storing what is left from here gives what is promised.
use Prim.Native.Nat.{◌+◌, ◌-◌, ◌*◌}
use mathlib.Core.Path.{◌≡◌}
use mathlib.Core.List.{map}
use lib.ListN.{drop}
use Rattle.fields.specs.Bytes.{cut}
use Rattle.fields.specs.Put.{put}
use Rattle.strip.specs.Cell.{each, edge_words}
use Rattle.read_grammar.specs.Polygons.{edge_of}
use Rattle.read_grammar.specs.Derives.{area_of}
use Rattle.read_edge_words.proofs.put_edge_run.Given as goal

abbrev pub invariant-loop-k : goal.invariant-loop-k
invariant-loop-k l =
    put (l.at + 6 * l.k) (each edge_words (map (edge_of (area_of l.header)) (cut 8 (l.n - l.k) (drop (8 * l.k) l.run)))) l.out
    ≡ put l.at (each edge_words (map (edge_of (area_of l.header)) (cut 8 l.n l.run))) l.initial.out
