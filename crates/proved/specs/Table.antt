-- The proved examples of the scope document as one table of equations on the definitions. proofs/Table.antt computes it. Definitions only.
use Rattle.std.specs.Prelude.{ℕ, ◌/◌, ◌%◌, ◌≡◌, true, false, List, [], ◌∷◌, pos, negsuc, length, Float}
use Rattle.std.specs.Float.{nan, fin}
use Rattle.quantise.specs.Short.{short}
use Rattle.quarters.specs.Quarter.{quarter_floor, quarter_ceil}
use Rattle.areas.specs.Areas.{seeded}
use Rattle.areas.specs.EdgeHalf.{half_word}
use Rattle.areas.specs.Decoded.{none_word}
use Rattle.write_blocks.specs.Layout.{place_of}
use Rattle.strip.specs.Cell.{Vec3, Cell}
use Rattle.strip.specs.Outcome.{Paper, values, refusal}
use Rattle.write_pages.specs.Sectors.{content_vehicle}
use Rattle.write_pages.specs.Pages.{counts, pages}
use Rattle.ynv_write.specs.declared.Written.{Written}

-- 0, 2 ^ k, 2 ^ -(k + 1), -(2 ^ k) and -0.375
abbrev pub nought : Float
nought = fin false 0 (pos 0)

abbrev pub power : ℕ → Float
power k = fin false 1 (pos k)

abbrev pub part : ℕ → Float
part k = fin false 1 (negsuc k)

abbrev pub negative_of : ℕ → Float
negative_of k = fin true 1 (pos k)

abbrev pub minus_three_eighths : Float
minus_three_eighths = fin true 3 (negsuc 2)

-- a cell without polygons, portals and points, of a content (bit 2 is set in a vehicle's), an area id and a box
abbrev pub empty : (content area : ℕ) → (bb-min bb-max bb-size : Vec3) → Cell
empty content area bb-min bb-max bb-size = record {
  head = record { content = content; area = area; version = 0; vft = 0; bb_min = bb-min; bb_max = bb-max; bb_size = bb-size };
  polys = [];
  portals = [];
  points = [];
}

-- its strip, where the box is of zeros: the cell's record and the end
abbrev pub empty_strip : (content area : ℕ) → List ℕ
empty_strip content area = 0x1000_0000 ∷ content ∷ area ∷ 0 ∷ 0 ∷ 0 ∷ 0 ∷ 0 ∷ 0 ∷ 0 ∷ 0 ∷ 0 ∷ 0 ∷ 0 ∷ 0x5000_0000 ∷ []

-- the length that an answer of the writer says
abbrev pub length_in : Paper Written → ℕ
length_in (values w) = w.length
length_in (refusal number place) = 0

pub record Table : Type 0 where
  pub p1 : short (power 0) nought (power 1) ≡ 32768
  pub p2 : (a lo : Float) → short a lo (part 23) ≡ 0
  pub p3 : short (part 22) nought (part 22) ≡ 65535
  pub p4 : (lo extent : Float) → short nan lo extent ≡ 0
  pub p5_min : quarter_floor minus_three_eighths ≡ negsuc 1
  pub p5_max : quarter_ceil minus_three_eighths ≡ negsuc 0
  pub p6_min : quarter_floor (power 13) ≡ pos 32767
  pub p6_max : quarter_ceil (power 13) ≡ pos 32767
  pub p6_minus_min : quarter_floor (negative_of 13) ≡ negsuc 32767
  pub p6_minus_max : quarter_ceil (negative_of 13) ≡ negsuc 32767
  pub p7 : seeded 0 ≡ 0 ∷ 16383 ∷ 4294967196 ∷ 4294967295 ∷ 1 ∷ 100 ∷ []
  pub p8 : length (seeded 16384) ≡ 5
  pub p9 : half_word 2 7 1 3 ≡ 0x006800E2
  pub p10 : none_word 1 ≡ 0x0007FFE1
  pub p11_fits : place_of 16288 96 ≡ 16288
  pub p11_next : place_of 16288 112 ≡ 16384
  -- whatever the area and the box: the vehicle with every content that has bit 2, the grid cell with every content that lacks it
  pub p12_vehicle : (content area : ℕ) (bb-min bb-max bb-size : Vec3) → content / content_vehicle % 2 ≡ 1 → length (pages (empty content area bb-min bb-max bb-size)) ≡ 688
  pub p12_total : (content area : ℕ) (bb-min bb-max bb-size : Vec3) → content / content_vehicle % 2 ≡ 1 → (counts (empty content area bb-min bb-max bb-size)).total ≡ 128
  pub p12_grid : (content area : ℕ) (bb-min bb-max bb-size : Vec3) → content / content_vehicle % 2 ≡ 0 → length (pages (empty content area bb-min bb-max bb-size)) ≡ 3088
