-- `write_leaves::write_leaf` meets its contract: each block is laid out where the one before it ends, within the leaf's bounds (`bounds`), and all four are the leaf's (`leaf_wrote`). Assumes nothing.
use Prim.Native.Nat.{ℕ, ◌+◌, ◌*◌, ◌^◌, ◌<◌}
use mathlib.Core.Path.{◌≡◌, refl, sym, ap, ◌∙◌}
use mathlib.Core.List.{List}
use native.Mathlib.Omega.{arith}
use lib.ListN.{length}
use Rattle.fields.specs.Bytes.{les, cat}
use Rattle.math.specs.declared.vec3.Vec3.{Vec3 as Floats}
use Rattle.quarters.specs.declared.bounds.Aabb.{Aabb}
use Rattle.strip.specs.Cell.{NavPoint}
use Rattle.strip.specs.Reading.{point_at}
use Rattle.strip.specs.Rows.{points_at}
use Rattle.strip.proofs.Steps.{items_length}
use Rattle.write_blocks.specs.declared.Layout.{Layout}
use Rattle.write_blocks.specs.Layout.{behind, end_of}
use Rattle.write_blocks.specs.Laid.{allocated, Laid}
use Rattle.write_blocks.specs.Optional.{block_of, size_of}
use Rattle.write_pages.specs.Sectors.{quarters, leaf_ids, grown, points_from, data_from, point_items}
use Rattle.write_pages.specs.Sectors.Sector.{leaf}
use Rattle.write_leaf_counts.specs.Work.{boxes_in, picked_from, count_in}
use Rattle.write_leaf_counts.proofs.Picks.{count_picked}
use Rattle.write_leaves.specs.Written.{tree_in, TreeRoom}
use Rattle.write_leaves.proofs.Leaves.{Bounds, bounds, ids_ends, points_ends, leaf_wrote}
use Rattle.write_blocks.proofs.Layouts.{at_of}
use Rattle.write_leaves.proofs.write_leaf.Goals as goal

-- the leaf k in the box b, whose points stand at `at` in the strip s, to be written from l on
module _ (bb-min bb-size : Floats) (b : Aabb) (boxes numbers s : List ℕ) (at k : ℕ) (l : Layout) (first : ℕ) where
  abbrev ids_in : List ℕ
  ids_in = leaf_ids (quarters b) 0 (boxes_in boxes)

  abbrev points_in : List NavPoint
  points_in = picked_from numbers k 0 (points_at s at (length numbers))

  room : TreeRoom (tree_in boxes numbers s at 0 k b) l.at first → TreeRoom (leaf b ids_in points_in) l.at first
  unfolding grown
  room h = h

  bounded : (h : TreeRoom (tree_in boxes numbers s at 0 k b) l.at first) → Bounds b ids_in points_in (room h)
  bounded h = bounds b ids_in points_in (room h)

  own_small : TreeRoom (tree_in boxes numbers s at 0 k b) l.at first → behind l.at 96 < 2 ^ 28
  own_small h = let b = bounded h in omega arith

  points_count : (n : ℕ) → n ≡ count_in numbers k 0 (length numbers) → n ≡ length points_in
  points_count n e = e ∙ ap (count_in numbers k 0) (sym (items_length (point_at s) (λ at. at + 4) (length numbers) at)) ∙ count_picked numbers k 0 (points_at s at (length numbers))

  -- the sizes of the two blocks, by the counts
  ids_end : (l1 : Layout) (m : ℕ) → l1 ≡ allocated l 96 → m ≡ length ids_in → end_of l1.at (size_of (2 * m)) ≡ points_from l.at (length ids_in)
  ids_end l1 m e f = ap (λ (j : ℕ). end_of j (size_of (2 * m))) (at_of e) ∙ ap (λ (j : ℕ). end_of (behind l.at 96) (size_of (2 * j))) f

  ids_behind : (l1 l2 : Layout) (xs ys : List ℕ) → l1 ≡ allocated l 96 → Laid l1 (block_of (les 2 ids_in)) l2 xs ys → l2.at ≡ points_from l.at (length ids_in)
  ids_behind l1 l2 xs ys e h = ids_ends bb-min bb-size ids_in h ∙ ap (λ (j : ℕ). end_of j (size_of (2 * length ids_in))) (at_of e)

  points_end : (l2 : Layout) (n : ℕ) → l2.at ≡ points_from l.at (length ids_in) → n ≡ length points_in → end_of l2.at (size_of (8 * n)) ≡ data_from l.at (length ids_in) (length points_in)
  points_end l2 n e f = ap (λ (j : ℕ). end_of j (size_of (8 * n))) e ∙ ap (λ (j : ℕ). end_of (points_from l.at (length ids_in)) (size_of (8 * j))) f

  points_behind : (l2 l3 : Layout) (xs ys : List ℕ) → l2.at ≡ points_from l.at (length ids_in) → Laid l2 (block_of (cat (point_items bb-min bb-size points_in))) l3 xs ys
      → l3.at ≡ data_from l.at (length ids_in) (length points_in)
  points_behind l2 l3 xs ys e h = points_ends bb-min bb-size points_in h ∙ ap (λ (j : ℕ). end_of j (size_of (8 * length points_in))) e

  data_small : TreeRoom (tree_in boxes numbers s at 0 k b) l.at first → (l3 : Layout) → l3.at ≡ data_from l.at (length ids_in) (length points_in) → behind l3.at 32 < 2 ^ 28
  data_small h l3 e = let b = bounded h in rw e (omega arith)

pub pad-at-requires : goal.pad-at-requires
pad-at-requires c = own_small c.args.points.frame.bb_min c.args.points.frame.bb_size c.args.b c.args.boxes.now c.args.leaf_numbers.now c.args.strip.now c.args.points.at c.args.cursor.leaf c.args.cursor.layout c.args.cursor.first c.requires.tree_room

pub alloc-l1-requires : goal.alloc-l1-requires
alloc-l1-requires c = own_small c.args.points.frame.bb_min c.args.points.frame.bb_size c.args.b c.args.boxes.now c.args.leaf_numbers.now c.args.strip.now c.args.points.at c.args.cursor.leaf c.args.cursor.layout c.args.cursor.first c.requires.tree_room

pub lay_ids-l2-requires : goal.lay_ids-l2-requires
lay_ids-l2-requires c =
    let b = bounded c.args.points.frame.bb_min c.args.points.frame.bb_size c.args.b c.args.boxes.now c.args.leaf_numbers.now c.args.strip.now c.args.points.at c.args.cursor.leaf c.args.cursor.layout c.args.cursor.first c.requires.tree_room in
    (c.leaf_ids-m.ensures, omega (arith, c.leaf_ids-m.ensures), omega (arith, ids_end c.args.points.frame.bb_min c.args.points.frame.bb_size c.args.b c.args.boxes.now c.args.leaf_numbers.now c.args.strip.now c.args.points.at c.args.cursor.leaf c.args.cursor.layout c.args.cursor.first c.alloc-l1.result c.leaf_ids-m.result c.alloc-l1.ensures c.leaf_ids-m.ensures))

pub lay_points-l3-requires : goal.lay_points-l3-requires
lay_points-l3-requires c =
    let b = bounded c.args.points.frame.bb_min c.args.points.frame.bb_size c.args.b c.args.boxes.now c.args.leaf_numbers.now c.args.strip.now c.args.points.at c.args.cursor.leaf c.args.cursor.layout c.args.cursor.first c.requires.tree_room in
    let n = points_count c.args.points.frame.bb_min c.args.points.frame.bb_size c.args.b c.args.boxes.now c.args.leaf_numbers.now c.args.strip.now c.args.points.at c.args.cursor.leaf c.args.cursor.layout c.args.cursor.first c.count_points-n.result c.count_points-n.ensures in
    (c.requires.leaf_bound.1, n, omega (arith, n), omega (arith, points_end c.args.points.frame.bb_min c.args.points.frame.bb_size c.args.b c.args.boxes.now c.args.leaf_numbers.now c.args.strip.now c.args.points.at c.args.cursor.leaf c.args.cursor.layout c.args.cursor.first c.lay_ids-l2.result c.count_points-n.result (ids_behind c.args.points.frame.bb_min c.args.points.frame.bb_size c.args.b c.args.boxes.now c.args.leaf_numbers.now c.args.strip.now c.args.points.at c.args.cursor.leaf c.args.cursor.layout c.args.cursor.first c.alloc-l1.result c.lay_ids-l2.result _ _ c.alloc-l1.ensures c.lay_ids-l2.ensures) (points_count c.args.points.frame.bb_min c.args.points.frame.bb_size c.args.b c.args.boxes.now c.args.leaf_numbers.now c.args.strip.now c.args.points.at c.args.cursor.leaf c.args.cursor.layout c.args.cursor.first c.count_points-n.result c.count_points-n.ensures)))

pub overflow_mul-m : goal.overflow_mul-m
overflow_mul-m c =
    let b = bounded c.args.points.frame.bb_min c.args.points.frame.bb_size c.args.b c.args.boxes.now c.args.leaf_numbers.now c.args.strip.now c.args.points.at c.args.cursor.leaf c.args.cursor.layout c.args.cursor.first c.requires.tree_room in
    omega (arith, c.leaf_ids-m.ensures)

pub address_of-ids_at-requires : goal.address_of-ids_at-requires
address_of-ids_at-requires c =
    let b = bounded c.args.points.frame.bb_min c.args.points.frame.bb_size c.args.b c.args.boxes.now c.args.leaf_numbers.now c.args.strip.now c.args.points.at c.args.cursor.leaf c.args.cursor.layout c.args.cursor.first c.requires.tree_room in
    omega (arith, ids_end c.args.points.frame.bb_min c.args.points.frame.bb_size c.args.b c.args.boxes.now c.args.leaf_numbers.now c.args.strip.now c.args.points.at c.args.cursor.leaf c.args.cursor.layout c.args.cursor.first c.alloc-l1.result c.leaf_ids-m.result c.alloc-l1.ensures c.leaf_ids-m.ensures)

pub overflow_mul-n : goal.overflow_mul-n
overflow_mul-n c =
    let b = bounded c.args.points.frame.bb_min c.args.points.frame.bb_size c.args.b c.args.boxes.now c.args.leaf_numbers.now c.args.strip.now c.args.points.at c.args.cursor.leaf c.args.cursor.layout c.args.cursor.first c.requires.tree_room in
    omega (arith, points_count c.args.points.frame.bb_min c.args.points.frame.bb_size c.args.b c.args.boxes.now c.args.leaf_numbers.now c.args.strip.now c.args.points.at c.args.cursor.leaf c.args.cursor.layout c.args.cursor.first c.count_points-n.result c.count_points-n.ensures)

pub address_of-points_at-requires : goal.address_of-points_at-requires
address_of-points_at-requires c =
    let b = bounded c.args.points.frame.bb_min c.args.points.frame.bb_size c.args.b c.args.boxes.now c.args.leaf_numbers.now c.args.strip.now c.args.points.at c.args.cursor.leaf c.args.cursor.layout c.args.cursor.first c.requires.tree_room in
    omega (arith, points_end c.args.points.frame.bb_min c.args.points.frame.bb_size c.args.b c.args.boxes.now c.args.leaf_numbers.now c.args.strip.now c.args.points.at c.args.cursor.leaf c.args.cursor.layout c.args.cursor.first c.lay_ids-l2.result c.count_points-n.result (ids_behind c.args.points.frame.bb_min c.args.points.frame.bb_size c.args.b c.args.boxes.now c.args.leaf_numbers.now c.args.strip.now c.args.points.at c.args.cursor.leaf c.args.cursor.layout c.args.cursor.first c.alloc-l1.result c.lay_ids-l2.result _ _ c.alloc-l1.ensures c.lay_ids-l2.ensures) (points_count c.args.points.frame.bb_min c.args.points.frame.bb_size c.args.b c.args.boxes.now c.args.leaf_numbers.now c.args.strip.now c.args.points.at c.args.cursor.leaf c.args.cursor.layout c.args.cursor.first c.count_points-n.result c.count_points-n.ensures))

pub overflow_cast-m : goal.overflow_cast-m
overflow_cast-m c =
    let b = bounded c.args.points.frame.bb_min c.args.points.frame.bb_size c.args.b c.args.boxes.now c.args.leaf_numbers.now c.args.strip.now c.args.points.at c.args.cursor.leaf c.args.cursor.layout c.args.cursor.first c.requires.tree_room in
    omega (arith, c.leaf_ids-m.ensures, points_count c.args.points.frame.bb_min c.args.points.frame.bb_size c.args.b c.args.boxes.now c.args.leaf_numbers.now c.args.strip.now c.args.points.at c.args.cursor.leaf c.args.cursor.layout c.args.cursor.first c.count_points-n.result c.count_points-n.ensures)

pub overflow_cast-n : goal.overflow_cast-n
overflow_cast-n c =
    let b = bounded c.args.points.frame.bb_min c.args.points.frame.bb_size c.args.b c.args.boxes.now c.args.leaf_numbers.now c.args.strip.now c.args.points.at c.args.cursor.leaf c.args.cursor.layout c.args.cursor.first c.requires.tree_room in
    omega (arith, c.leaf_ids-m.ensures, points_count c.args.points.frame.bb_min c.args.points.frame.bb_size c.args.b c.args.boxes.now c.args.leaf_numbers.now c.args.strip.now c.args.points.at c.args.cursor.leaf c.args.cursor.layout c.args.cursor.first c.count_points-n.result c.count_points-n.ensures)

pub lay_data-l4-requires : goal.lay_data-l4-requires
lay_data-l4-requires c = data_small c.args.points.frame.bb_min c.args.points.frame.bb_size c.args.b c.args.boxes.now c.args.leaf_numbers.now c.args.strip.now c.args.points.at c.args.cursor.leaf c.args.cursor.layout c.args.cursor.first c.requires.tree_room c.lay_points-l3.result (points_behind c.args.points.frame.bb_min c.args.points.frame.bb_size c.args.b c.args.boxes.now c.args.leaf_numbers.now c.args.strip.now c.args.points.at c.args.cursor.leaf c.args.cursor.layout c.args.cursor.first c.lay_ids-l2.result c.lay_points-l3.result _ _ (ids_behind c.args.points.frame.bb_min c.args.points.frame.bb_size c.args.b c.args.boxes.now c.args.leaf_numbers.now c.args.strip.now c.args.points.at c.args.cursor.leaf c.args.cursor.layout c.args.cursor.first c.alloc-l1.result c.lay_ids-l2.result _ _ c.alloc-l1.ensures c.lay_ids-l2.ensures) c.lay_points-l3.ensures)

pub address_of-data_at-requires : goal.address_of-data_at-requires
address_of-data_at-requires c = data_small c.args.points.frame.bb_min c.args.points.frame.bb_size c.args.b c.args.boxes.now c.args.leaf_numbers.now c.args.strip.now c.args.points.at c.args.cursor.leaf c.args.cursor.layout c.args.cursor.first c.requires.tree_room c.lay_points-l3.result (points_behind c.args.points.frame.bb_min c.args.points.frame.bb_size c.args.b c.args.boxes.now c.args.leaf_numbers.now c.args.strip.now c.args.points.at c.args.cursor.leaf c.args.cursor.layout c.args.cursor.first c.lay_ids-l2.result c.lay_points-l3.result _ _ (ids_behind c.args.points.frame.bb_min c.args.points.frame.bb_size c.args.b c.args.boxes.now c.args.leaf_numbers.now c.args.strip.now c.args.points.at c.args.cursor.leaf c.args.cursor.layout c.args.cursor.first c.alloc-l1.result c.lay_ids-l2.result _ _ c.alloc-l1.ensures c.lay_ids-l2.ensures) c.lay_points-l3.ensures)

pub overflow_add-result : goal.overflow_add-result
overflow_add-result c = omega (arith, c.requires.leaf_bound.0)

pub overflow_cast-result : goal.overflow_cast-result
overflow_cast-result c =
    let b = bounded c.args.points.frame.bb_min c.args.points.frame.bb_size c.args.b c.args.boxes.now c.args.leaf_numbers.now c.args.strip.now c.args.points.at c.args.cursor.leaf c.args.cursor.layout c.args.cursor.first c.requires.tree_room in
    omega (arith, points_count c.args.points.frame.bb_min c.args.points.frame.bb_size c.args.b c.args.boxes.now c.args.leaf_numbers.now c.args.strip.now c.args.points.at c.args.cursor.leaf c.args.cursor.layout c.args.cursor.first c.count_points-n.result c.count_points-n.ensures)

pub overflow_add-result-2 : goal.overflow_add-result-2
overflow_add-result-2 c =
    let b = bounded c.args.points.frame.bb_min c.args.points.frame.bb_size c.args.b c.args.boxes.now c.args.leaf_numbers.now c.args.strip.now c.args.points.at c.args.cursor.leaf c.args.cursor.layout c.args.cursor.first c.requires.tree_room in
    omega (arith, points_count c.args.points.frame.bb_min c.args.points.frame.bb_size c.args.b c.args.boxes.now c.args.leaf_numbers.now c.args.strip.now c.args.points.at c.args.cursor.leaf c.args.cursor.layout c.args.cursor.first c.count_points-n.result c.count_points-n.ensures)

pub returns : goal.returns
unfolding grown
returns c =
    let a = c.args in
    leaf_wrote a.points.frame.bb_min a.points.frame.bb_size a.b (leaf_ids (quarters a.b) 0 (boxes_in a.boxes.now)) (picked_from a.leaf_numbers.now a.cursor.leaf 0 (points_at a.strip.now a.points.at (length a.leaf_numbers.now)))
    c.alloc-l1.ensures c.pad-at.ensures.out c.lay_ids-l2.ensures c.lay_points-l3.ensures
    c.address_of-ids_at.ensures c.address_of-points_at.ensures c.leaf_ids-m.ensures (points_count c.args.points.frame.bb_min c.args.points.frame.bb_size c.args.b c.args.boxes.now c.args.leaf_numbers.now c.args.strip.now c.args.points.at c.args.cursor.leaf c.args.cursor.layout c.args.cursor.first c.count_points-n.result c.count_points-n.ensures) c.lay_data-l4.ensures
    c.address_of-data_at.ensures c.pad-at.ensures.start c.put_sector.ensures refl refl
