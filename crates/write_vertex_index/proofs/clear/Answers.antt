-- `write_vertex_index::clear` meets its contract: the words are filled as far as there are any (`cleared_parts`).
use native.Mathlib.Nat.{min-le_right}
use native.Mathlib.Omega.{arith}
use mathlib.Core.Path.{◌≡◌}
use lib.ListN.{length, take}
use Rattle.std.proofs.lemmas.List.{length-take-le}
use Rattle.write_vertices.proofs.Clearing.{cleared_parts}
use Rattle.write_vertex_index.proofs.clear.Goals as goal

pub returns : goal.returns
returns c =
    let t = c.args.table.now in
    let n = c.min-n.result in
    let most = min-le_right c.args.buckets (length t) in
    let long : length (take n t) ≡ n = length-take-le n t (omega (arith, most, c.min-n.ensures)) in
    rw (c.fill.ensures.after (λ _ e. e), long) (cleared_parts c.args.buckets t n c.min-n.ensures)
