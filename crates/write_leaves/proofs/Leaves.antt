-- A leaf of the writer's recursion: room for its blocks, and the blocks laid out. Assumes nothing.
use Prim.Native.Nat.{ℕ, ◌+◌, ◌-◌, ◌*◌, ◌^◌, ◌≤◌, ◌<◌}
use mathlib.Core.Path.{◌≡◌, ap, ◌∙◌}
use mathlib.Core.List.{List, [], ◌∷◌, ◌++◌}
use native.Mathlib.Omega.{arith}
use lib.ListN.{length}
use Rattle.fields.specs.Bytes.{les, cat, zeros}
use Rattle.fields.specs.Put.{put}
use Rattle.fields.specs.Rows.{row_bytes}
use Rattle.fields.proofs.Bytes.{length_les}
use Rattle.fields.proofs.Rows.{length_rows}
use Rattle.math.specs.declared.vec3.Vec3.{Vec3 as Floats}
use Rattle.quarters.specs.declared.bounds.Aabb.{Aabb}
use Rattle.strip.specs.Cell.{NavPoint}
use Rattle.write_blocks.specs.declared.Layout.{Layout}
use Rattle.write_blocks.specs.Layout.{place_of, behind, end_of, address}
use Rattle.write_blocks.specs.Laid.{allocated, Laid}
use Rattle.write_blocks.proofs.Layouts.{end_append, end_ge, place_ge, at_of, laid_end, laid_then, laid_before}
use Rattle.write_blocks.specs.Optional.{block_of, size_of, address_of}
use Rattle.write_pages.specs.Sectors.{point_count, leaf_counts, sizes, sector_row, data_row, ids_from, points_from, data_from, point_items, leaf_blocks, tree_blocks}
use Rattle.write_pages.specs.Sectors.Sector.{leaf}
use Rattle.write_pages.proofs.Sizes.{block_size, length_points}
use Rattle.write_leaves.specs.declared.SectorCursor.{SectorCursor}
use Rattle.write_leaves.specs.Written.{TreeRoom, Wrote}

module _ (b : Aabb) (is : List ℕ) (ts : List NavPoint) {end first : ℕ} (room : TreeRoom (leaf b is ts) end first) where
  abbrev data_at : ℕ
  data_at = data_from end (length is) (length ts)

  leaf_ends : end_of end (sizes (leaf b is ts)) ≡ behind data_at 32
  unfolding sizes
  leaf_ends =
      end_append (behind end 96) (size_of (2 * length is)) (size_of (8 * length ts) ++ (32 ∷ []))
      ∙ end_append (points_from end (length is)) (size_of (8 * length ts)) (32 ∷ [])

  -- all bounds at once
  pub record Bounds : Type 0 where
    pub ids_end : behind end 96 ≤ points_from end (length is)
    pub points_end : points_from end (length is) ≤ data_at
    pub data_end : data_at ≤ place_of data_at 32
    pub small : place_of data_at 32 + 32 < 2 ^ 28
    pub ids : length is ≤ 8192
    pub points : length ts ≤ 2048
    pub firsts : first + length ts < 2 ^ 32

  pub bounds : Bounds
  unfolding leaf_counts point_count
  bounds =
      record {
        ids_end = end_ge (behind end 96) (size_of (2 * length is));
        points_end = end_ge (points_from end (length is)) (size_of (8 * length ts));
        data_end = place_ge data_at 32;
        small = omega (arith, leaf_ends, room.small);
        ids = room.few.0.ids;
        points = room.few.0.points;
        firsts = room.numbers;
      }

module _ (bb-min bb-size : Floats) where
  -- the ends behind a leaf's ids and points
  pub ids_ends : (is : List ℕ) {l r : Layout} {xs ys : List ℕ} → Laid l (block_of (les 2 is)) r xs ys → r.at ≡ end_of l.at (size_of (2 * length is))
  ids_ends is {l} h = laid_end h ∙ ap (end_of l.at) (block_size (2 * length is) (les 2 is) (length_les 2 is))

  pub points_ends : (ts : List NavPoint) {l r : Layout} {xs ys : List ℕ} → Laid l (block_of (cat (point_items bb-min bb-size ts))) r xs ys → r.at ≡ end_of l.at (size_of (8 * length ts))
  points_ends ts {l} h = laid_end h ∙ ap (end_of l.at) (block_size (8 * length ts) (cat (point_items bb-min bb-size ts)) (length_points bb-min bb-size ts))

  -- the blocks, from what each step of the writer was given and left: its own names of the places, addresses and counts with what they are
  pub leaf_wrote : (b : Aabb) (is : List ℕ) (ts : List NavPoint) {cursor r : SectorCursor} {l1 l2 l3 : Layout} {at d ia pa m n : ℕ} {xs y0 y1 y2 y3 ys : List ℕ}
      → l1 ≡ allocated cursor.layout 96 → y0 ≡ put cursor.layout.at (zeros (place_of cursor.layout.at 96 - cursor.layout.at)) xs
      → Laid l1 (block_of (les 2 is)) l2 y0 y1
      → Laid l2 (block_of (cat (point_items bb-min bb-size ts))) l3 y1 y2
      → ia ≡ address_of l1.at (2 * m) → pa ≡ address_of l2.at (8 * n) → m ≡ length is → n ≡ length ts
      → Laid l3 (row_bytes (data_row cursor.first ia pa m n) ∷ []) r.layout y2 y3
      → d ≡ address (place_of l3.at 32)
      → at ≡ place_of cursor.layout.at 96 → ys ≡ put at (row_bytes (sector_row b d 0 0 0 0)) y3
      → r.leaf ≡ cursor.leaf + 1 → r.first ≡ cursor.first + n
      → Wrote bb-min bb-size (leaf b is ts) 1 cursor r xs ys
  unfolding tree_blocks leaf_blocks point_count
  leaf_wrote b is ts {cursor} {r} {l1} {l2} {l3} {at} {d} {ia} {pa} {m} {n} {xs} {y0} {y1} {y2} {y3} {ys} p1 p0 h1 h2 ei ep em en h3 ed ea ey rl rf =
      let end : ℕ = cursor.layout.at in
      let q2 : l2.at ≡ points_from end (length is) = ids_ends is h1 ∙ ap (λ (j : ℕ). end_of j (size_of (2 * length is))) (at_of p1) in
      let q3 : l3.at ≡ data_from end (length is) (length ts) = points_ends ts h2 ∙ ap (λ (j : ℕ). end_of j (size_of (8 * length ts))) q2 in
      let fi : ia ≡ address_of (ids_from end) (2 * length is) = ei ∙ ap (λ (j : ℕ). address_of j (2 * m)) (at_of p1) ∙ ap (λ (j : ℕ). address_of (ids_from end) (2 * j)) em in
      let fp : pa ≡ address_of (points_from end (length is)) (8 * length ts) = ep ∙ ap (λ (j : ℕ). address_of j (8 * n)) q2 ∙ ap (λ (j : ℕ). address_of (points_from end (length is)) (8 * j)) en in
      let fd : d ≡ address (place_of (data_from end (length is) (length ts)) 32) = ed ∙ ap (λ (j : ℕ). address (place_of j 32)) q3 in
      let z3 = rw (fi, fp, em, en) at h3 in
      let z1 = rw p0 at h1 in
      let z = laid_before {l = cursor.layout} (length_rows (sector_row b (address (place_of (data_from end (length is) (length ts)) 32)) 0 0 0 0)) p1 (laid_then z1 (laid_then h2 z3)) in
      record { laid = rw (ey, ea, fd) z; next = rl; points = rf ∙ ap (λ (j : ℕ). cursor.first + j) en }
