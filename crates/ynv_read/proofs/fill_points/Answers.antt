-- `fill_points` meets its contract. The cell's box is what shorts are turned back in.
use Prim.Native.Nat.{ℕ}
use mathlib.Core.Path.{ap, ◌∙◌}
use mathlib.Core.List.{List}
use Rattle.fields.specs.Bytes.{le_at}
use Rattle.ynv_read.proofs.Records.{back_is}
use Rattle.ynv_read.proofs.fill_points.Goals as goal

pub put_tree_points-requires : goal.put_tree_points-requires
put_tree_points-requires c = let root = c.u64_le.ensures ∙ ap (λ (l : List ℕ). le_at 8 l 0x120) c.requires.0.header_is in rw root c.requires.1

pub returns : goal.returns
returns c =
    let root = c.u64_le.ensures ∙ ap (λ (l : List ℕ). le_at 8 l 0x120) c.requires.0.header_is in let back = back_is c.args.reader.system.now c.args.reader.graphics.now c.requires.0.cell_is in record {
      next = c.put_tree_points.ensures.next ∙ rw root;
      content = c.put_tree_points.ensures.content ∙ rw (root, back);
    }
