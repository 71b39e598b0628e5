-- `pick_contains::read_vertex` meets its contract: y stands one word behind x.
use Prim.Native.Nat.{◌+◌}
use native.Mathlib.Omega.{arith}
use Rattle.strip.specs.Reading.{word}
use Rattle.pick_contains.specs.Vertices.{short_on}
use Rattle.pick_contains.proofs.Laws.{same_place}
use Rattle.pick_contains.proofs.read_vertex.Goals as goal

pub returns : goal.returns
returns c =
    let a = c.args in
    rw (same_place (λ k. short_on a.y (word a.strip.now k)) (a.at + 1) c.short_at.ensures (omega arith))
