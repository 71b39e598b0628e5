-- The sectors of a planned strip: the tree by the words of work is its cell's, and what is laid out are its blocks. Assumes nothing.
use Prim.Native.Nat.{ℕ, ◌+◌, ◌*◌, ◌/◌, ◌%◌, ◌^◌, ◌≤◌, ◌<◌}
use mathlib.Core.Path.{◌≡◌, ap, sym, subst, ◌∙◌}
use mathlib.Core.List.{List}
use native.Mathlib.Omega.{arith}
use native.Mathlib.Nat.{zero-add}
use lib.ListN.{length}
use Rattle.quarters.specs.declared.bounds.Aabb.{Aabb}
use Rattle.strip.specs.Reading.{word, head_at}
use Rattle.strip.specs.Rows.{points_at}
use Rattle.strip.specs.declared.Counts.{Counts}
use Rattle.cell_record.specs.Record.{record_of, root_in}
use Rattle.cell_record.specs.declared.CellRecord.{CellRecord}
use Rattle.cell_record.proofs.Fields.{flags_are, min_is, size_is, root_is}
use Rattle.write_blocks.proofs.Layouts.{laid_end}
use Rattle.write_pages.specs.Sectors.{Sector, depth_of, point_count}
use Rattle.write_pages.specs.Pages.{bb_min, bb_size, counts, sectors, end_polygons, end_sectors}
use Rattle.write_pages.proofs.Sizes.{tree_lengths}
use Rattle.write_decide.specs.Decide.{work_places}
use Rattle.write_decide.specs.declared.WorkPlaces.{WorkPlaces}
use Rattle.strip.specs.Laid.{first_point, cell_at}
use Rattle.write_plan.specs.Plan.{points_in}
use Rattle.write_plan.proofs.Rest.{box_part, leaf_part, part_long, part_tree, point_count_lem}
use Rattle.write_leaves.specs.Written.{tree_in, TreeRoom, Wrote}
use Rattle.write_leaves.specs.declared.SectorCursor.{SectorCursor}
use Rattle.write_pages.proofs.LeafCounts.{few_leaves}
use Rattle.write_sectors.proofs.Cell.{cell_room, cell_laid}
use Rattle.write_rest.specs.Rest.{WorkKept, SectorsFilled}

module _ (s w : List ℕ) (n : Counts) (K : WorkKept s w n) (places : WorkPlaces) (here : places ≡ work_places (length s) n) where
  module _ (at k : ℕ) (b : Aabb) (first : at ≡ first_point s n) (cell : CellRecord) (same-cell : cell ≡ record_of (head_at s 0))
      (deep : k ≡ depth_of cell.content_flags) (root : b ≡ root_in cell) where
    deep_is : k ≡ depth_of (word s 1)
    unfolding head_at
    deep_is = deep ∙ ap depth_of (flags_are (head_at s 0) cell same-cell)

    tree : Sector
    tree = tree_in (box_part s w n K.held places here) (leaf_part s w n K.held places here) s at k 0 b

    tree_is : tree ≡ sectors (cell_at s n)
    unfolding sectors tree
    tree_is =
        let many : length (leaf_part s w n K.held places here) ≡ n.points = sym (part_long s w n K.held places here) ∙ point_count_lem s n in
        let ts : points_at s at (length (leaf_part s w n K.held places here)) ≡ points_in s n = rw (many, first) in
        rw (ts, deep_is) (part_tree s w n K.held places here b (root ∙ root_is (head_at s 0) cell same-cell))

    pub points_inside : at + 4 * length (leaf_part s w n K.held places here) ≤ length s
    points_inside = omega (arith, first, K.length_is, part_long s w n K.held places here, point_count_lem s n)

    pub leaves_few : 0 + 4 ^ k < 2 ^ 32
    leaves_few = rw deep_is (omega (arith, few_leaves (word s 1 / 2 ^ 2 % 2)))

    pub sectors_ask : (end : ℕ) → end ≡ end_polygons (counts (cell_at s n)) (sectors (cell_at s n))
        → TreeRoom (tree_in (box_part s w n K.held places here) (leaf_part s w n K.held places here) s at k 0 b) end 0
    unfolding tree
    sectors_ask end e = subst (λ (t : Sector). TreeRoom t end 0) (sym tree_is) (rw e (cell_room (cell_at s n) K.accepted))

    pub sectors_filled : {j : ℕ} {p r : SectorCursor} {xs ys : List ℕ}
        → p.layout.at ≡ end_polygons (counts (cell_at s n)) (sectors (cell_at s n)) → p.first ≡ 0
        → Wrote cell.bb_min cell.bb_size (tree_in (box_part s w n K.held places here) (leaf_part s w n K.held places here) s at k 0 b) j p r xs ys
        → SectorsFilled (cell_at s n) p.layout xs ys r
    unfolding tree end_sectors
    sectors_filled {j} {p} {r} {xs} {ys} e f wrote =
        let c = cell_at s n in
        let same : Wrote (bb_min c) (bb_size c) (sectors c) j p r xs ys = rw (min_is (head_at s 0) cell same-cell, size_is (head_at s 0) cell same-cell, tree_is) at wrote in
        let laid = cell_laid c e f same in
        record {
          ends = laid_end laid ∙ rw (tree_lengths (bb_min c) (bb_size c) (end_polygons (counts c) (sectors c)) 0 (sectors c), e);
          points = same.points ∙ rw f (zero-add (point_count (sectors c)));
          laid = laid;
        }
