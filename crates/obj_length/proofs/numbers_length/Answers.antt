-- `obj_length::numbers_length` meets its contract. The invariant: the bytes counted and the digits that are left of each number are all.
use Prim.Native.Nat.{◌+◌}
use mathlib.Core.Path.{◌≡◌, sym}
use native.Mathlib.Nat.{pow-zero}
use native.Mathlib.Omega.{arith}
use Rattle.obj_length.proofs.Lines.{counts_on}
use Rattle.obj_length.proofs.Numbers.{over, spaced_over, numbers_turn, numbers_done, next_ten, tens_most}
use Rattle.obj_length.proofs.numbers_length.Goals as goal

pub loop-init : goal.loop-init
loop-init c = (sym (pow-zero 10), omega arith, omega (arith, spaced_over c.args.n 1))

pub overflow_mul-tens : goal.overflow_mul-tens
overflow_mul-tens c =
    let l = c.loop in
    omega (arith, l.invariant.0, tens_most l.counter c.loop-test.true)

pub loop-preserved : goal.loop-preserved
loop-preserved c =
    let l = c.loop in
    let n = c.args.n in
    let first = rw l.invariant.0 at c.saturating_sub.ensures in
    let bytes = c.saturating_add-bytes.ensures in
    (rw (next_ten l.counter, l.invariant.0), omega (arith, bytes), counts_on l.bytes _ (over (l.counter + 1) 1 n) bytes (rw (numbers_turn l.counter n, ← first) at l.invariant.2))

pub returns : goal.returns
returns c =
    let l = c.loop in
    let all : l.counter ≡ 19 = omega arith in
    omega (arith, l.invariant.2, numbers_done l.counter c.args.n (rw all c.requires))
