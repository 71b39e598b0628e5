-- `write_ends::leaf_end` meets its contract: each block begins where the one before it ends, and has the definition's size, however the code words it.
-- Assumes nothing.
use Prim.Native.Nat.{ℕ, ◌*◌}
use mathlib.Core.Path.{◌≡◌, ◌∙◌}
use mathlib.Core.List.{List, [], ◌∷◌, ◌++◌}
use native.Mathlib.Omega.{arith}
use Rattle.write_blocks.specs.Laid.{reached, Within}
use Rattle.write_blocks.specs.Optional.{size_of}
use Rattle.write_blocks.specs.declared.Layout.{Layout}
use Rattle.write_blocks.proofs.Layouts.{joined, begins, onward}
use Rattle.write_ends.specs.Ends.{leaf_sizes}
use Rattle.write_ends.proofs.Behind.{within_some, fits_one, end_one}
use Rattle.write_ends.proofs.leaf_end.Goals as goal

module _ (l : Layout) (ids points : ℕ) (h : Within l (leaf_sizes ids points)) where
  -- the sizes from the points on, and from the ids on
  abbrev points_on : List ℕ
  points_on = size_of (8 * points) ++ (32 ∷ [])

  abbrev ids_on : List ℕ
  ids_on = size_of (2 * ids) ++ points_on

  -- behind the sector, the ids and the points: what there is room for
  sector : (l1 : Layout) → l1 ≡ reached l (96 ∷ []) → Within l1 ids_on
  sector l1 e = onward (96 ∷ []) ids_on e h

  ids_fit : (l1 : Layout) → l1 ≡ reached l (96 ∷ []) → Within l1 (size_of (2 * ids))
  ids_fit l1 e = begins (size_of (2 * ids)) points_on (sector l1 e)

  behind_ids : (l1 l2 : Layout) → l1 ≡ reached l (96 ∷ []) → l2 ≡ reached l1 (size_of (2 * ids)) → Within l2 points_on
  behind_ids l1 l2 e f = onward (size_of (2 * ids)) points_on f (sector l1 e)

  points_fit : (l1 l2 : Layout) → l1 ≡ reached l (96 ∷ []) → l2 ≡ reached l1 (size_of (2 * ids)) → Within l2 (size_of (8 * points))
  points_fit l1 l2 e f = begins (size_of (8 * points)) (32 ∷ []) (behind_ids l1 l2 e f)

  behind_points : (l1 l2 l3 : Layout) → l1 ≡ reached l (96 ∷ []) → l2 ≡ reached l1 (size_of (2 * ids)) → l3 ≡ reached l2 (size_of (8 * points)) → Within l3 (32 ∷ [])
  behind_points l1 l2 l3 e f g = onward (size_of (8 * points)) (32 ∷ []) g (behind_ids l1 l2 e f)

pub alloc-sector-requires : goal.alloc-sector-requires
alloc-sector-requires c = fits_one 96 (begins (96 ∷ []) (ids_on c.args.l c.args.ids c.args.points c.requires) c.requires) (omega arith)

pub overflow_mul-ids : goal.overflow_mul-ids
overflow_mul-ids c = omega (arith, within_some (2 * c.args.ids) (ids_fit c.args.l c.args.ids c.args.points c.requires c.alloc-sector.result c.alloc-sector.ensures))

pub alloc_some-behind_ids-requires : goal.alloc_some-behind_ids-requires
alloc_some-behind_ids-requires c = ids_fit c.args.l c.args.ids c.args.points c.requires c.alloc-sector.result c.alloc-sector.ensures

pub overflow_mul-points : goal.overflow_mul-points
overflow_mul-points c =
    omega (arith, within_some (8 * c.args.points) (points_fit c.args.l c.args.ids c.args.points c.requires c.alloc-sector.result c.alloc_some-behind_ids.result c.alloc-sector.ensures c.alloc_some-behind_ids.ensures))

pub alloc_some-behind_points-requires : goal.alloc_some-behind_points-requires
alloc_some-behind_points-requires c = points_fit c.args.l c.args.ids c.args.points c.requires c.alloc-sector.result c.alloc_some-behind_ids.result c.alloc-sector.ensures c.alloc_some-behind_ids.ensures

pub alloc-requires : goal.alloc-requires
alloc-requires c =
    fits_one 32
    (behind_points c.args.l c.args.ids c.args.points c.requires c.alloc-sector.result c.alloc_some-behind_ids.result c.alloc_some-behind_points.result c.alloc-sector.ensures c.alloc_some-behind_ids.ensures c.alloc_some-behind_points.ensures)
    (omega arith)

pub returns : goal.returns
returns c =
    end_one c.alloc_some-behind_points.result _ 32 c.alloc.ensures (omega arith)
    ∙ joined _ (size_of (8 * c.args.points)) (32 ∷ []) c.alloc_some-behind_points.ensures
    ∙ joined _ (size_of (2 * c.args.ids)) (points_on c.args.l c.args.ids c.args.points c.requires) c.alloc_some-behind_ids.ensures
    ∙ joined _ (96 ∷ []) (ids_on c.args.l c.args.ids c.args.points c.requires) c.alloc-sector.ensures
