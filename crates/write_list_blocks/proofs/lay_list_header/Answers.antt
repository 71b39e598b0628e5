-- `write_list_blocks::lay_list_header` meets its contract: the words' bytes are the fields'.
use mathlib.Core.Path.{◌≡◌, ap, ◌∙◌}
use mathlib.Core.List.{List, [], ◌∷◌, append_assoc}
use Prim.Native.Nat.{ℕ, ◌<◌, ◌^◌}
use native.Mathlib.Omega.{arith}
use lib.Dec.{lit<}
use Rattle.fields.specs.Bytes.{les}
use Rattle.fields.specs.Put.{put}
use Rattle.fields.specs.Rows.{row_bytes}
use Rattle.fields.proofs.Bytes.{le_address}
use Rattle.fields.proofs.Rows.{length_rows}
use Rattle.write_blocks.specs.Layout.{address}
use Rattle.write_blocks.specs.Lists.{list_row}
use Rattle.write_blocks.proofs.Layouts.{laid_block}
use Rattle.write_list_blocks.proofs.lay_list_header.Goals as goal

header_words : (vft n table offsets k : ℕ) → table < 2 ^ 32 → offsets < 2 ^ 32
    → les 4 (vft ∷ 1 ∷ n ∷ 0 ∷ table ∷ 0 ∷ offsets ∷ 0 ∷ k ∷ 0 ∷ 0 ∷ 0 ∷ []) ≡ row_bytes (list_row vft n table offsets k)
unfolding les row_bytes
header_words vft n table offsets k t o = simp (le_address table t, le_address offsets o, le_address 0 (lit< tt), append_assoc)

pub returns : goal.returns
returns c =
    let pad = c.pad-start in
    let a = c.args in
    let e = header_words a.vft a.n (address a.table) a.offsets a.k (omega (arith, c.requires)) (omega arith) in
    laid_block (length_rows (list_row a.vft a.n (address a.table) a.offsets a.k)) pad.ensures.start pad.ensures.out
    (rw c.address.ensures at c.put_all.ensures ∙ ap (λ (bs : List ℕ). put pad.result bs pad.new.out) e) c.alloc.ensures
