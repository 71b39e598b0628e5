-- `touching::beside_in_column` meets its contract: whatever the row, the two numbers are the neighbours in the rows beside it, each by arithmetic.
use native.Mathlib.Omega.{arith}
use Rattle.touching.proofs.Touches.{InColumn, Exactly, in_column}
use Rattle.touching.proofs.beside_in_column.Goals as goal
use Rattle.touching.proofs.beside_in_column.Goals.{then-own-ge100, else-own-ge100, then-own-lt9900 as inner_row, else-own-lt9900 as last_row}

pub returns : goal.returns
returns c =
    let a = c.args in
    let second = c.if-own-lt9900 in
    let neighbours : Exactly (InColumn a.own a.area) a.area c.if-own-ge100.south second.north =
    elim c.if-own-ge100.branch [
      | then-own-ge100 s ↦ elim second.branch [ inner_row n ↦ omega arith | last_row n ↦ omega arith ]
      | else-own-ge100 s ↦ elim second.branch [ inner_row n ↦ omega arith | last_row n ↦ omega arith ]
    ] in
    in_column a.own a.area neighbours
