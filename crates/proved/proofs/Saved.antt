-- P12 of the writer: what saving an empty cell answers, whatever its content and area, and the vehicle's total in the pages. Assumes nothing.
use Prim.Native.Nat.{ℕ, ◌/◌, ◌%◌, ◌^◌, ◌≤◌}
use native.Mathlib.Omega.{arith}
use mathlib.Core.Path.{◌≡◌, sym, ap, ◌∙◌}
use mathlib.Core.Bool.{false}
use mathlib.Core.List.{List}
use lib.Dec.{ltb}
use lib.ListN.{length}
use borrow.Author.Tests.{le-ltb}
use Rattle.fields.specs.Bytes.{le_at}
use Rattle.strip.specs.Cell.{Vec3, plain}
use Rattle.strip.specs.Box.{finite_box}
use Rattle.strip.specs.Scan.{Scanned, scan}
use Rattle.strip.specs.Outcome.{shown, left}
use Rattle.strip.proofs.Readback.{scan_encode}
use Rattle.strip.proofs.Plain.{encode_plain}
use Rattle.write_pages.specs.Items.{gather}
use Rattle.write_pages.specs.Sectors.{leaf_counts, tree_of, grown, leaf_ids, points_of}
use Rattle.write_pages.specs.Pages.{links, sectors, pages}
use Rattle.write_pages.specs.Checks.{fine, first_fault, at, polygons_verdict, leaves_verdict, cell_verdict, cell_outcome}
use Rattle.write_pages.proofs.Examples.{computed}
use Rattle.ynv_write.specs.Serialize.{written_of, serialize_outcome}
use Rattle.proved.specs.Table.{empty, empty_strip, length_in}
use Rattle.proved.proofs.Table.{table}

abbrev origin : Vec3
origin = record { x = 0; y = 0; z = 0 }

scanned : (content area : ℕ) → scan (empty_strip content area) ≡ Scanned.ok (empty content area origin origin origin)
unfolding computed
scanned content area =
    let c = empty content area origin origin origin in
    ap scan (sym (encode_plain c)) ∙ scan_encode plain c (record { polys = tt; portals = tt; points = tt })

-- the checks of that cell decide
decided : (content area out : ℕ) → serialize_outcome (empty_strip content area) 60 out ≡ cell_outcome written_of 15 60 out (empty content area origin origin origin)
unfolding serialize_outcome
decided content area out = rw (scanned content area)

-- an empty cell is fine where its pages fit, so that the answer is their length
module _ (content area out : ℕ) (fits : ltb out (length (pages (empty content area origin origin origin))) ≡ false) where
  fine_split : content / 2 ^ 2 % 2 ≡ 0 → cell_verdict 15 60 out (empty content area origin origin origin) ≡ fine
  unfolding cell_verdict first_fault at finite_box polygons_verdict leaves_verdict leaf_counts sectors tree_of grown leaf_ids points_of links gather
  fine_split h = rw (h, fits)

  fine_whole : content / 2 ^ 2 % 2 ≡ 1 → cell_verdict 15 60 out (empty content area origin origin origin) ≡ fine
  unfolding cell_verdict first_fault at finite_box polygons_verdict leaves_verdict leaf_counts sectors tree_of grown leaf_ids points_of links gather
  fine_whole h = rw (h, fits)

  answered : cell_verdict 15 60 out (empty content area origin origin origin) ≡ fine → length_in (shown (serialize_outcome (empty_strip content area) 60 out)) ≡ length (pages (empty content area origin origin origin))
  answered e = rw (decided content area out, e)

pub vehicle_length : (content area : ℕ) → content / 2 ^ 2 % 2 ≡ 1 → length_in (shown (serialize_outcome (empty_strip content area) 60 688)) ≡ 688
vehicle_length content area h =
    let long = table.p12_vehicle content area origin origin origin h in
    let room : length (pages (empty content area origin origin origin)) ≤ 688 = omega arith in
    let fits = le-ltb 688 (length (pages (empty content area origin origin origin))) room in
    answered content area 688 fits (fine_whole content area 688 fits h) ∙ long

-- at 0x144 of its header
pub vehicle_total : (old : List ℕ) → le_at 4 (left (serialize_outcome (empty_strip 4 10000) 60 688) old) 0x144 ≡ 128
unfolding computed le_at
vehicle_total old = rw (decided 4 10000 688)

pub grid_length : (content area : ℕ) → content / 2 ^ 2 % 2 ≡ 0 → length_in (shown (serialize_outcome (empty_strip content area) 60 3088)) ≡ 3088
grid_length content area h =
    let long = table.p12_grid content area origin origin origin h in
    let room : length (pages (empty content area origin origin origin)) ≤ 3088 = omega arith in
    let fits = le-ltb 3088 (length (pages (empty content area origin origin origin))) room in
    answered content area 3088 fits (fine_split content area 3088 fits h) ∙ long
