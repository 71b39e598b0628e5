-- `obj_lines::put_shorts` meets its contract: the pieces are stored one behind the other.
use native.Mathlib.Omega.{arith}
use lib.ListN.{length-set}
use Rattle.fields.specs.Bytes.{cat}
use Rattle.decimal.specs.Text.{ascii}
use Rattle.decimal.proofs.Stored.{nothing, stored_then, byte}
use Rattle.obj_lines.specs.Lines.{shorts_line}
use Rattle.obj_lines.proofs.Lengths.{shorts_length, spaced_step, of_number, moved}
use Rattle.obj_lines.proofs.put_shorts.Goals as goal

pub bounds-text-at : goal.bounds-text-at
bounds-text-at c = omega (arith, shorts_length c.args.q)

pub put_spaced-x-requires : goal.put_spaced-x-requires
put_spaced-x-requires c = rw (length-set, c.from.ensures) (omega (arith, shorts_length c.args.q))

pub put_spaced-y-requires : goal.put_spaced-y-requires
put_spaced-y-requires c =
    let first = length-set c.args.text.now c.args.at 118 in
    let x = of_number c.from.ensures c.put_spaced-x.ensures in
    rw c.from-2.ensures (omega (arith, shorts_length c.args.q, first, spaced_step _ x))

pub put_spaced-z-requires : goal.put_spaced-z-requires
put_spaced-z-requires c =
    let first = length-set c.args.text.now c.args.at 118 in
    let x = of_number c.from.ensures c.put_spaced-x.ensures in
    let y = of_number c.from-2.ensures c.put_spaced-y.ensures in
    rw c.from-3.ensures (omega (arith, shorts_length c.args.q, first, spaced_step _ x, spaced_step _ y))

pub bounds-text-z : goal.bounds-text-z
bounds-text-z c =
    let first = length-set c.args.text.now c.args.at 118 in
    let x = of_number c.from.ensures c.put_spaced-x.ensures in
    let y = of_number c.from-2.ensures c.put_spaced-y.ensures in
    let z = of_number c.from-3.ensures c.put_spaced-z.ensures in
    omega (arith, shorts_length c.args.q, first, spaced_step _ x, spaced_step _ y, spaced_step _ z)

pub overflow_add-result : goal.overflow_add-result
overflow_add-result c =
    let first = length-set c.args.text.now c.args.at 118 in
    let x = of_number c.from.ensures c.put_spaced-x.ensures in
    let y = of_number c.from-2.ensures c.put_spaced-y.ensures in
    let z = of_number c.from-3.ensures c.put_spaced-z.ensures in
    omega (arith, shorts_length c.args.q, first, spaced_step _ x, spaced_step _ y, spaced_step _ z)

pub returns : goal.returns
unfolding shorts_line cat ascii
returns c =
    let x = of_number c.from.ensures c.put_spaced-x.ensures in
    let y = of_number c.from-2.ensures c.put_spaced-y.ensures in
    let z = of_number c.from-3.ensures c.put_spaced-z.ensures in
    stored_then byte (stored_then (moved (omega arith) x) (stored_then y (stored_then z (stored_then byte nothing))))
