-- The points of written pages: the header's count, and how many are read, whatever follows the pages. Document 02, No. 2. Assumes nothing.
use mathlib.Core.Path.{◌≡◌, ◌∙◌}
use mathlib.Core.List.{List, ◌++◌}
use Prim.Native.Nat.{ℕ}
use native.Mathlib.Omega.{arith}
use lib.ListN.{length, length-map}
use Rattle.fields.specs.Bytes.{le_at}
use Rattle.fields.proofs.Holds.{Holds, held_more}
use Rattle.strip.specs.Cell.{Cell}
use Rattle.write_blocks.specs.Layout.{place_of}
use Rattle.write_blocks.proofs.Standing.{stand}
use Rattle.write_pages.specs.Preorder.{preorder}
use Rattle.write_pages.specs.Pages.{bb_min, bb_size, areas, sectors, counts, places_of, header, blocks, pages}
use Rattle.write_pages.specs.Reread.{point_again, reread}
use Rattle.write_pages.specs.Accepted.{Accepted}
use Rattle.write_pages.specs.PointCounts.{stored_count}
use Rattle.write_pages.proofs.Sizes.{header_length}
use Rattle.write_pages.proofs.Stored.{length_preorder}
use Rattle.write_pages.proofs.LeafCounts.{few_stored}
use Rattle.readback.proofs.Header.{point_count_back}
use Rattle.readback.proofs.Trees.{first_held}

module _ (c : Cell) where
  -- the header says how many are stored
  pub header_count : (tail : List ℕ) → Accepted c → le_at 4 (pages c ++ tail) 0x148 ≡ stored_count c
  unfolding pages blocks header counts place_of
  header_count tail a =
      let long : length (header c) ≡ 368 = header_length c.head (places_of (counts c) (sectors c)) (counts c) (areas c) in
      let held : Holds (pages c) 0 (header c) = first_held (pages c) 0 368 (header c) long (stand (blocks c)).0 in
      point_count_back c.head (places_of (counts c) (sectors c)) (counts c) (areas c) (held_more tail held) (omega (arith, few_stored c a))

  -- so many points are read
  pub read_count : length (reread c).points ≡ stored_count c
  unfolding reread
  read_count = length-map (preorder (sectors c)) (point_again (bb_min c) (bb_size c)) ∙ length_preorder (sectors c)
