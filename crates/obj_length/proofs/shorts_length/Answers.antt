-- `obj_length::shorts_length` meets its contract: five bytes beside the digits, of which a short has five at most.
use native.Mathlib.Omega.{arith}
use Rattle.obj_lines.proofs.Lengths.{short_digits}
use Rattle.obj_lines.proofs.Lengths as lengths
use Rattle.obj_length.proofs.shorts_length.Goals as goal

pub overflow_add-result : goal.overflow_add-result
overflow_add-result c =
    let q = c.args.q in
    omega (arith, c.digits_of.ensures, short_digits q.x (omega arith))

pub overflow_add-result-2 : goal.overflow_add-result-2
overflow_add-result-2 c =
    let q = c.args.q in
    omega (arith, c.digits_of.ensures, c.digits_of-2.ensures, short_digits q.x (omega arith), short_digits q.y (omega arith))

pub overflow_add-result-3 : goal.overflow_add-result-3
overflow_add-result-3 c =
    let q = c.args.q in
    omega (arith, lengths.shorts_most q (omega arith) (omega arith) (omega arith), lengths.shorts_length q)

pub returns : goal.returns
returns c = let q = c.args.q in omega (arith, lengths.shorts_length q)
