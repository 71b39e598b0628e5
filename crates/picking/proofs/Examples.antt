-- Spots that antt computes: on the border, on a slanted side, in degenerate polygons, in two polygons; and the answers of whole strips. Assumes nothing.
use Prim.Native.Nat.{ℕ}
use mathlib.Core.Path.{◌≡◌, refl}
use mathlib.Core.Bool.{Bool, true, false}
use mathlib.Core.List.{List, [], ◌∷◌, ◌++◌}
use lib.Ieee.{binary32, of_bits, sub, div, mul, lt}
use Rattle.std.specs.Prelude.{Option, Some, None}
use Rattle.quantise.specs.Short.{short, fraction, clamped, nearest_number}
use Rattle.strip.specs.Reading.{items_at, head_at, poly_at, polygon_of}
use Rattle.strip.specs.Box.{finite_box}
use Rattle.strip.specs.Scan.{first_good, all_below, edges_fit, poly_fits, cell_record, polygon_record, portal_record, end_record, record_of, record_at, rest_from, rest_at, scan}
use Rattle.strip.specs.Outcome.{Paper, refusal, values, shown}
use Rattle.pick_contains.specs.declared.Spot.{Spot}
use Rattle.pick_contains.specs.Inside.{left_of, crossed, crossings, last_of, inside}
use Rattle.picking.specs.Picking.{first_from, pick_outcome, spot_outcome}

abbrev at : ℕ → ℕ → Spot
at x y = record { x = x; y = y }

holds : Spot → List Spot → Bool
unfolding inside crossings last_of crossed left_of
holds s vs = inside s vs

abbrev triangle : List Spot
triangle = at 0 0 ∷ at 65535 0 ∷ at 0 65535 ∷ []

abbrev square : List Spot
square = at 0 0 ∷ at 10 0 ∷ at 10 10 ∷ at 0 10 ∷ []

-- of its corners a triangle contains the low left one alone
corner : holds (at 0 0) triangle ≡ true
unfolding holds
corner = refl

corner_above : holds (at 0 65535) triangle ≡ false
unfolding holds
corner_above = refl

corner_right : holds (at 65535 0) triangle ≡ false
unfolding holds
corner_right = refl

-- on the slanted side, and one step left of it
slanted : holds (at 32768 32767) triangle ≡ false
unfolding holds
slanted = refl

beside_slanted : holds (at 32767 32767) triangle ≡ true
unfolding holds
beside_slanted = refl

-- vertices in a line; one vertex thrice; a square gone round twice is crossed evenly
line : holds (at 5 5) (at 0 0 ∷ at 5 5 ∷ at 10 10 ∷ []) ≡ false
unfolding holds
line = refl

one_place : holds (at 5 5) (at 5 5 ∷ at 5 5 ∷ at 5 5 ∷ []) ≡ false
unfolding holds
one_place = refl

twice_round : holds (at 5 5) (square ++ square) ≡ false
unfolding holds
twice_round = refl

-- of two that contain a spot the first is found
overlapping : first_from (holds (at 5 5)) 0 (triangle ∷ square ∷ []) ≡ Some 0
unfolding holds first_from
overlapping = refl

second : first_from (holds (at 11 5)) 0 (square ∷ triangle ∷ []) ≡ Some 1
unfolding holds first_from
second = refl

-- Strips of a box from 0 to 65535, whose upper x is a word (that float is 65535, 0x477fff00, or infinite), and polygons of three vertices.
answer : List ℕ → Spot → Paper (Option ℕ)
unfolding scan rest_at rest_from record_at record_of first_good cell_record polygon_record portal_record end_record head_at poly_at poly_fits polygon_of all_below edges_fit items_at finite_box first_from inside crossings last_of crossed left_of short fraction clamped nearest_number sub div mul lt of_bits
answer strip s = shown (pick_outcome strip s)

abbrev box : ℕ → List ℕ
box upper =
    0x10000000 ∷ 0 ∷ 500 ∷ 0 ∷ 0 ∷ 0 ∷ 0 ∷ 0 ∷ upper ∷ 0x477fff00 ∷ 0 ∷ 0x477fff00 ∷ 0x477fff00 ∷ 0 ∷ []

abbrev polygon : List ℕ
polygon = 0x20000003 ∷ 0 ∷ 0 ∷ 0 ∷ 0 ∷ 0 ∷ 0 ∷ 0x477fff00 ∷ 0 ∷ 0 ∷ 0 ∷ 0x477fff00 ∷ 0 ∷ []

picked : answer (box 0x477fff00 ++ polygon ++ polygon ++ (0x50000000 ∷ [])) (at 0 0) ≡ values (Some 0)
unfolding answer
picked = refl

missed : answer (box 0x477fff00 ++ polygon ++ (0x50000000 ∷ [])) (at 65535 0) ≡ values None
unfolding answer
missed = refl

-- 3 comes before 10
not_finite : answer (box 0x7f800000 ++ (0x50000000 ∷ [])) (at 0 0) ≡ refusal 10 0
unfolding answer
not_finite = refl

no_end : answer (box 0x7f800000) (at 0 0) ≡ refusal 3 14
unfolding answer
no_end = refl

-- on a side that is 2 long, 1 is the middle, which the half goes up from, and 2 the end
spotted : List ℕ → (x y : ℕ) → Paper Spot
unfolding scan rest_at rest_from record_at record_of first_good cell_record end_record head_at finite_box short fraction clamped nearest_number sub div mul lt of_bits
spotted strip x y = shown (spot_outcome strip (of_bits binary32 x) (of_bits binary32 y))

middle : spotted (0x10000000 ∷ 0 ∷ 500 ∷ 0 ∷ 0 ∷ 0 ∷ 0 ∷ 0 ∷ 0 ∷ 0 ∷ 0 ∷ 0x40000000 ∷ 0x40000000 ∷ 0 ∷ 0x50000000 ∷ []) 0x3f800000 0x40000000 ≡ values (at 32768 65535)
unfolding spotted
middle = refl
