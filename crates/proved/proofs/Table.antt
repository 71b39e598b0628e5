-- The table of the proved examples, by computation.
use mathlib.Core.Path.{◌≡◌, refl, ◌∙◌}
use mathlib.Core.Bool.{Bool, true, false, cond}
use Prim.Native.Nat.{ℕ, ◌/◌, ◌%◌, ◌^◌}
use lib.Ieee.{sub, div, mul, lt}
use Rattle.fields.specs.Rows.{pack}
use Rattle.quantise.specs.Short.{short, fraction, clamped, nearest_number, magnitude, least}
use Rattle.quarters.specs.Quarter.{side}
use Rattle.distinct.specs.Distinct.{distinct_from, with_new, index_of}
use Rattle.areas.specs.EdgeHalf.{half_word}
use Rattle.write_blocks.specs.Layout.{place_of}
use lib.ListN.{length}
use Rattle.strip.specs.Cell.{Vec3}
use Rattle.write_pages.specs.Pages.{counts, pages}
use Rattle.write_pages.proofs.Examples.{computed}
use Rattle.write_pages.proofs.Sizes.{pages_length}
use Rattle.proved.specs.Table.{empty, Table}

same : (b : Bool) → ◌≡◌ {A = ℕ} (cond b 0 0) 0
same true = refl
same false = refl

-- P12: the length is the end of the blocks' sizes, which neither the areas nor the box change
vehicle_length : (content area : ℕ) (bb-min bb-max bb-size : Vec3) → content / 2 ^ 2 % 2 ≡ 1 → length (pages (empty content area bb-min bb-max bb-size)) ≡ 688
unfolding computed
vehicle_length content area bb-min bb-max bb-size h = pages_length (empty content area bb-min bb-max bb-size) ∙ rw h

vehicle_total : (content area : ℕ) (bb-min bb-max bb-size : Vec3) → content / 2 ^ 2 % 2 ≡ 1 → (counts (empty content area bb-min bb-max bb-size)).total ≡ 128
unfolding computed
vehicle_total content area bb-min bb-max bb-size h = rw h

grid_length : (content area : ℕ) (bb-min bb-max bb-size : Vec3) → content / 2 ^ 2 % 2 ≡ 0 → length (pages (empty content area bb-min bb-max bb-size)) ≡ 3088
unfolding computed
grid_length content area bb-min bb-max bb-size h = pages_length (empty content area bb-min bb-max bb-size) ∙ rw h

pub table : Table
unfolding short fraction side sub div mul lt clamped nearest_number distinct_from with_new index_of half_word pack place_of computed
table = record {
  p1 = refl;
  p2 = λ a lo. refl;
  p3 = refl;
  p4 = λ lo extent. same (lt (magnitude extent) least);
  p5_min = refl;
  p5_max = refl;
  p6_min = refl;
  p6_max = refl;
  p6_minus_min = refl;
  p6_minus_max = refl;
  p7 = refl;
  p8 = refl;
  p9 = refl;
  p10 = refl;
  p11_fits = refl;
  p11_next = refl;
  p12_vehicle = vehicle_length;
  p12_total = vehicle_total;
  p12_grid = grid_length;
}
