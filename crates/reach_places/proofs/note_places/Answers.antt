-- `reach_places::note_places` meets its contract. The invariant: the entries so far have the places of their polygons.
use Rattle.std.proofs.Common.{rules, arith, ◌+◌, ◌*◌, ◌/◌, length, refl, ap}
use Rattle.std.proofs.Math.Nat.{div-le_self}
use Rattle.strip.specs.Reading.{poly_at}
use Rattle.strip.specs.Rows.{after_polygons}
use Rattle.reach_places.proofs.Walk.{after_more, after_within, after_long, stride_enough, turn_starts, turns_end, filling_start, filling_place, filling_index, filling_turn, filling_end}
use Rattle.reach_places.proofs.note_places.Goals as goal

pub overflow_add-stride : goal.overflow_add-stride
overflow_add-stride c =
    let a = c.args in
    let enough = after_long a.n a.strip.now 14 in
    let inside = c.requires.0 in
    let less = div-le_self a.n (length a.places.now) in
    search rules

pub loop-k-init : goal.loop-k-init
loop-k-init c = (omega arith, stride_enough _ _ c.requires.1, refl, filling_start _ _ _ _)

pub skip-at-requires : goal.skip-at-requires
skip-at-requires c =
    let a = c.args in
    let s = a.strip.now in
    let l = c.loop-k in
    let h = turn_starts _ _ _ _ l.invariant.0 c.div_ceil-k-end.ensures c.loop-k-test.true in
    let at = l.k * (a.n / length a.places.now + 1) in
    let step = c.min.result in
    let place = ap (λ x. after_polygons s x step) (filling_place _ _ _ _ _ _ l.invariant.3 h) in
    omega (arith, c.requires.0, c.min.ensures, place, after_more (λ x. (poly_at s x).next) at step 14, after_within s 14 (at + step) a.n (omega (arith, h, c.min.ensures)))

pub loop-k-preserved : goal.loop-k-preserved
loop-k-preserved c =
    let l = c.loop-k in
    let h = turn_starts _ _ _ _ l.invariant.0 c.div_ceil-k-end.ensures c.loop-k-test.true in
    let inside = filling_index _ _ _ _ _ _ l.invariant.3 h _ l.invariant.1 in
    (l.invariant.0, l.invariant.1, search rules, filling_turn _ _ _ _ _ _ l.invariant.3 h _ (omega arith) (search rules))

pub returns : goal.returns
returns c =
    let l = c.loop-k in
    filling_end _ _ _ _ _ _ _ l.invariant.3 (turns_end _ _ _ _ l.invariant.0 c.div_ceil-k-end.ensures c.loop-k-test.false) l.invariant.0 l.invariant.2 l.invariant.1 c.requires.0
