-- `write_header::put_last` meets its contract: the words have the bytes of the rows. Assumes nothing.
use mathlib.Core.Path.{ap, ◌∙◌}
use mathlib.Core.List.{List}
use Prim.Native.Nat.{ℕ}
use native.Mathlib.Omega.{arith}
use Rattle.fields.specs.Put.{put}
use Rattle.cell_record.specs.Record.{head_by}
use Rattle.write_header.specs.Front.{places_in, counts_in}
use Rattle.write_header.proofs.Records.{last_words}
use Rattle.write_header.proofs.put_last.Goals as goal

pub returns : goal.returns
unfolding head_by
returns c =
    let a = c.args in
    c.put_all.ensures ∙ ap (λ (bs : List ℕ). put 280 bs a.out.now) (last_words (head_by a.cell) (places_in a.a) (counts_in a.n) (omega (arith, c.well_formed)) (omega (arith, c.well_formed)) (omega (arith, c.well_formed)) (omega (arith, c.well_formed)))
