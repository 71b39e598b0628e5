-- `write_polygons::put_polygon` meets its contract: the words, put together, are the polygon's.
use Prim.Native.Nat.{ℕ}
use mathlib.Core.Path.{ap, ◌∙◌}
use mathlib.Core.List.{List}
use Rattle.fields.specs.Bytes.{les}
use Rattle.fields.specs.Put.{put}
use Rattle.write_polygons.proofs.Records.{polygon_made}
use Rattle.write_polygons.proofs.put_polygon.Goals as goal

pub returns : goal.returns
returns c =
    let a = c.args in
    c.put_all.ensures
    ∙ ap (λ (ws : List ℕ). put a.place (les 4 ws) a.out.now)
    (polygon_made a.strip.now a.p a.own a.c.number a.c.start a.c.links _ _ _ _ _ _ _ _ c.count_bits.ensures c.pair_word-first.ensures c.low_bits.ensures c.pair_word-second.ensures c.part_word-last.ensures)
