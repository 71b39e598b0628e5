-- `reach_places::place_of` meets its contract: the entry's place, and the walk from there where there is one.
use borrow.Author.Rules.{rules}
use mathlib.Core.Path.{◌∙◌}
use native.Mathlib.Omega.{arith}
use Rattle.reach_places.proofs.Walk.{row_index, row_walk, row_inside, each_index, each_place}
use Rattle.reach_places.proofs.place_of.Goals as goal

pub offset_bounds-places-i : goal.offset_bounds-places-i
offset_bounds-places-i c =
    let h = each_index _ _ _ _ c.requires.0 _ c.requires.1 c.if-stride-eq1.true in
    search rules

pub bounds-places-i : goal.bounds-places-i
bounds-places-i c = each_index _ _ _ _ c.requires.0 _ c.requires.1 c.if-stride-eq1.true

pub returns-then-stride-eq1 : goal.returns-then-stride-eq1
returns-then-stride-eq1 c = each_place _ _ _ _ c.requires.0 _ c.requires.1 c.if-stride-eq1.true

pub nonzero_div-i : goal.nonzero_div-i
nonzero_div-i c = omega (arith, c.requires.0.some)

pub offset_bounds-places-i-2 : goal.offset_bounds-places-i-2
offset_bounds-places-i-2 c =
    let h = row_index _ _ _ _ c.requires.0 _ c.requires.1 in
    search rules

pub bounds-places-i-2 : goal.bounds-places-i-2
bounds-places-i-2 c = row_index _ _ _ _ c.requires.0 _ c.requires.1

pub nonzero_rem-i : goal.nonzero_rem-i
nonzero_rem-i c = omega (arith, c.requires.0.some)

pub skip-requires : goal.skip-requires
skip-requires c = row_inside _ _ _ _ c.requires.0 _ c.requires.1

pub returns : goal.returns
returns c = c.skip.ensures ∙ row_walk _ _ _ _ c.requires.0 _ c.requires.1
