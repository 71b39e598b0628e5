-- Strips that antt computes: the empty cell, one polygon, and the place of what is wrong with others. Assumes nothing.
use Prim.Native.Nat.{ℕ}
use mathlib.Core.Path.{◌≡◌, refl}
use mathlib.Core.List.{List, [], ◌∷◌, ◌++◌}
use Rattle.strip.specs.Reading.{head_at, poly_at}
use Rattle.strip.specs.Scan.{first_good, all_below, edges_fit, poly_fits, cell_record, polygon_record, portal_record, end_record, record_of, record_at, rest_from, rest_at, scan}
use Rattle.strip.specs.Outcome.{Paper, refusal, values, shown}
use Rattle.strip.specs.Checked.{strip_outcome}
use Rattle.strip.specs.declared.Counts.{Counts}

answer : List ℕ → Paper Counts
unfolding scan rest_at rest_from record_at record_of first_good cell_record polygon_record portal_record end_record head_at poly_at poly_fits all_below edges_fit
answer s = shown (strip_outcome s)

abbrev cell : List ℕ
cell = 0x10000000 ∷ 0 ∷ 500 ∷ 0 ∷ 0 ∷ 0 ∷ 0 ∷ 0 ∷ 0 ∷ 0 ∷ 0 ∷ 0 ∷ 0 ∷ 0 ∷ []

empty : answer (cell ++ (0x50000000 ∷ [])) ≡ values (record { polys = 0; portals = 0; points = 0 })
unfolding answer
empty = refl

nothing : answer [] ≡ refusal 3 0
unfolding answer
nothing = refl

-- the first word is judged before it is asked whether the others are there
first_bit : answer (0x10000001 ∷ []) ≡ refusal 3 0
unfolding answer
first_bit = refl

cut_cell : answer (0x10000000 ∷ []) ≡ refusal 3 1
unfolding answer
cut_cell = refl

end_first : answer (0x50000000 ∷ []) ≡ refusal 3 0
unfolding answer
end_first = refl

no_end : answer cell ≡ refusal 3 14
unfolding answer
no_end = refl

second_cell : answer (cell ++ (0x10000000 ∷ [])) ≡ refusal 3 14
unfolding answer
second_cell = refl

end_bit : answer (cell ++ (0x50000001 ∷ [])) ≡ refusal 3 14
unfolding answer
end_bit = refl

after_end : answer (cell ++ (0x50000000 ∷ 0 ∷ [])) ≡ refusal 3 15
unfolding answer
after_end = refl

-- a polygon with one link that has 17 bits: cut off before it, and whole
cut_polygon : answer (cell ++ (0x21000000 ∷ 0x10000 ∷ 0 ∷ 0 ∷ [])) ≡ refusal 3 18
unfolding answer
cut_polygon = refl

wide_link : answer (cell ++ (0x21000000 ∷ 0 ∷ 0 ∷ 0 ∷ 0x10000 ∷ 0x50000000 ∷ [])) ≡ refusal 3 14
unfolding answer
wide_link = refl

one_polygon : answer (cell ++ (0x21000000 ∷ 0 ∷ 0 ∷ 0 ∷ 0xFFFF ∷ 0x50000000 ∷ [])) ≡ values (record { polys = 1; portals = 0; points = 0 })
unfolding answer
one_polygon = refl
