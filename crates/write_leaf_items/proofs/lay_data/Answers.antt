-- `write_leaf_items::lay_data` meets its contract: zeros up to the place, then the words, which have the bytes of the row (`data_words`). Assumes nothing.
use mathlib.Core.Path.{ap, ◌∙◌}
use mathlib.Core.List.{List}
use Prim.Native.Nat.{ℕ}
use native.Mathlib.Omega.{arith}
use Rattle.fields.specs.Put.{put}
use Rattle.fields.proofs.Rows.{length_rows}
use Rattle.write_blocks.proofs.Layouts.{laid_block}
use Rattle.write_pages.specs.Sectors.{data_row}
use Rattle.write_leaf_items.proofs.Records.{data_words}
use Rattle.write_leaf_items.proofs.lay_data.Goals as goal

pub returns : goal.returns
returns c =
    let a = c.args in
    let row = data_row a.first a.ids a.points a.id_count a.point_count in
    laid_block (length_rows row) c.pad-at.ensures.start c.pad-at.ensures.out
    (c.put_all.ensures ∙ ap (λ (bs : List ℕ). put c.pad-at.result bs c.pad-at.new.out) (data_words a.first a.ids a.points _ a.id_count a.point_count (omega arith) (omega arith) c.pair.ensures))
    c.alloc.ensures
