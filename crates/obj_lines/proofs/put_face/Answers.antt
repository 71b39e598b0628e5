-- `obj_lines::put_face` meets its contract. The invariant: what stores the numbers that are left has stored them all, and there is room for them.
use Prim.Native.Nat.{◌+◌, ◌-◌}
use mathlib.Core.Path.{◌≡◌}
use native.Mathlib.Omega.{arith}
use lib.ListN.{length-set}
use Rattle.fields.specs.Bytes.{cat}
use Rattle.decimal.specs.Text.{ascii}
use Rattle.decimal.proofs.Stored.{nothing, stored_then, byte, kept}
use Rattle.obj_lines.specs.Lines.{spaced, consecutive, face_line}
use Rattle.obj_lines.proofs.Lengths.{spaced_length, face_length}
use Rattle.obj_lines.proofs.Storing.{begins, has_room, goes_on, ends, lines_turn, lines_done}
use Rattle.obj_lines.proofs.put_face.Goals as goal

pub bounds-text-at : goal.bounds-text-at
bounds-text-at c = let a = c.args in omega (arith, face_length (consecutive a.first a.n))

pub loop-number-init : goal.loop-number-init
loop-number-init c =
    let a = c.args in
    let all : a.first + a.n - a.first ≡ a.n = omega arith in
    begins (rw length-set (omega (arith, face_length (consecutive a.first a.n)))) (rw all)

pub put_spaced-to-requires : goal.put_spaced-to-requires
put_spaced-to-requires c =
    let l = c.loop-number in
    let a = c.args in
    let t = lines_turn spaced (λ k. k) (λ k. k + 1) l.number l.number (a.first + a.n) c.loop-number-test.true in
    omega (arith, has_room (spaced l.number) _ l.invariant t, spaced_length l.number)

pub loop-number-preserved : goal.loop-number-preserved
loop-number-preserved c =
    let l = c.loop-number in
    let a = c.args in
    let t = lines_turn spaced (λ k. k) (λ k. k + 1) l.number l.number (a.first + a.n) c.loop-number-test.true in
    goes_on l.invariant t c.put_spaced-to.ensures

pub bounds-text-to : goal.bounds-text-to
bounds-text-to c =
    let l = c.loop-number in
    let a = c.args in
    let numbers = ends l.invariant (lines_done spaced (λ k. k) (λ k. k + 1) l.number l.number (a.first + a.n) c.loop-number-test.false) in
    omega (arith, face_length (consecutive a.first a.n), kept numbers, numbers.place, length-set a.text.now a.at 102)

pub returns : goal.returns
unfolding face_line cat ascii
returns c =
    let l = c.loop-number in
    let a = c.args in
    let numbers = ends l.invariant (lines_done spaced (λ k. k) (λ k. k + 1) l.number l.number (a.first + a.n) c.loop-number-test.false) in
    stored_then byte (stored_then numbers (stored_then byte nothing))
