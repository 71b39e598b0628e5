-- `touching::beside_in_row` meets its contract: whatever the ends of the row, the two numbers are the neighbours in it, each by arithmetic.
use native.Mathlib.Omega.{arith}
use Rattle.touching.proofs.Touches.{InRow, Exactly, in_row}
use Rattle.touching.proofs.beside_in_row.Goals as goal
use Rattle.touching.proofs.beside_in_row.Goals.{then-column-gt0 as beyond_first, else-column-gt0 as first, then-column-lt99, else-column-lt99}

pub returns : goal.returns
returns c =
    let a = c.args in
    let one = c.if-column-gt0 in
    let neighbours : Exactly (InRow a.own a.area) a.area one.west c.if-column-lt99.east =
    elim one.branch [
      | beyond_first w ↦ elim c.if-column-lt99.branch [ then-column-lt99 e ↦ omega arith | else-column-lt99 e ↦ omega arith ]
      | first w ↦ elim c.if-column-lt99.branch [ then-column-lt99 e ↦ omega arith | else-column-lt99 e ↦ omega arith ]
    ] in
    in_row a.own a.area neighbours
