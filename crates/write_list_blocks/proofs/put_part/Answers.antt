-- `write_list_blocks::put_part` meets its contract: the words' bytes are the fields'.
use mathlib.Core.Path.{◌∙◌}
use mathlib.Core.List.{append_assoc}
use Prim.Native.Nat.{◌<◌, ◌^◌}
use native.Mathlib.Omega.{arith}
use Rattle.fields.specs.Bytes.{les}
use Rattle.fields.specs.Rows.{row_bytes}
use Rattle.fields.proofs.Bytes.{le_address}
use Rattle.write_blocks.specs.Layout.{address}
use Rattle.write_list_blocks.proofs.put_part.Goals as goal

pub returns : goal.returns
unfolding les row_bytes
returns c =
    let a = c.args in
    let h : address a.start < 2 ^ 32 = omega arith in
    rw c.address.ensures at c.put_all.ensures ∙ simp (le_address (address a.start) h, append_assoc)
