-- One sector of the writer's recursion: room for each sub, and the blocks of all four behind the sector's own. Assumes nothing.
use Prim.Native.Nat.{ℕ, suc, ◌+◌, ◌-◌, ◌*◌, ◌^◌, ◌≤◌, ◌<◌}
use mathlib.Core.Path.{◌≡◌, ap, subst, ◌∙◌}
use mathlib.Core.List.{List, [], ◌∷◌, ◌++◌}
use native.Mathlib.Nat.{pow-suc}
use native.Mathlib.Omega.{arith}
use lib.ListN.{length}
use Rattle.fields.specs.Bytes.{zeros}
use Rattle.fields.specs.Put.{put}
use Rattle.fields.specs.Rows.{row_bytes}
use Rattle.fields.proofs.Rows.{length_rows}
use Rattle.math.specs.declared.vec3.Vec3.{Vec3 as Floats}
use Rattle.quarters.specs.declared.quarter.QuarterBox.{QuarterBox}
use Rattle.quarters.specs.declared.bounds.Aabb.{Aabb}
use Rattle.strip.specs.Cell.{NavPoint}
use Rattle.strip.specs.Fits.{All}
use Rattle.write_blocks.specs.Layout.{place_of, behind, end_of}
use Rattle.write_blocks.specs.Laid.{allocated, Laid}
use Rattle.write_blocks.proofs.Layouts.{end_append, end_ge, laid_end, laid_then, laid_before}
use Rattle.write_pages.specs.Accepted.{FewIn}
use Rattle.write_blocks.specs.Optional.{size_of}
use Rattle.write_pages.specs.Sectors.{Sector, point_count, leaf_counts, sector_row, sizes, sector_address, from0, from1, from2, from3, tree_blocks, grown, sub0, sub1, sub2, sub3}
use Rattle.write_pages.specs.Sectors.Sector.{leaf, node}
use Rattle.strip.proofs.Alls.{all_apart}
use Rattle.write_pages.proofs.Sizes.{tree_lengths}
use Rattle.write_quadtree.specs.declared.boxes.Subs.{Subs}
use Rattle.write_leaves.specs.declared.SectorCursor.{SectorCursor}
use Rattle.write_leaves.specs.Written.{TreeRoom, Wrote}

-- where the writer stands
pub record Stand (p : SectorCursor) (end leaf' first : ℕ) : Type 0 where
  pub ends : p.layout.at ≡ end
  pub leaves : p.leaf ≡ leaf'
  pub points : p.first ≡ first

-- every tree begins with a sector
sector_first : (end : ℕ) (t : Sector) → behind end 96 ≤ end_of end (sizes t)
unfolding sizes
sector_first end (leaf b is ts) = end_ge (behind end 96) (size_of (2 * length is) ++ (size_of (8 * length ts) ++ (32 ∷ [])))
sector_first end (node b t0 t1 t2 t3) = end_ge (behind end 96) (sizes t0 ++ (sizes t1 ++ (sizes t2 ++ sizes t3)))

pub first_small : (t : Sector) {end first : ℕ} → TreeRoom t end first → behind end 96 < 2 ^ 28
first_small t {end} r = omega (arith, r.small, sector_first end t)

module _ (bb_min bb_size : Floats) where
  -- after a tree
  pub stand_of : {t : Sector} {n : ℕ} {p r : SectorCursor} {xs ys : List ℕ} {end k first : ℕ} → Stand p end k first → Wrote bb_min bb_size t n p r xs ys
      → Stand r (end_of end (sizes t)) (k + n) (first + point_count t)
  stand_of {t} {n} {p} s w =
      record {
        ends = laid_end w.laid ∙ ap (end_of p.layout.at) (tree_lengths bb_min bb_size p.layout.at p.first t) ∙ ap (λ (e : ℕ). end_of e (sizes t)) s.ends;
        leaves = w.next ∙ ap (λ (j : ℕ). j + n) s.leaves;
        points = w.points ∙ ap (λ (j : ℕ). j + point_count t) s.points;
      }

  pub laid_of : {t : Sector} {n : ℕ} {p r : SectorCursor} {xs ys : List ℕ} {end k first : ℕ} → Stand p end k first → Wrote bb_min bb_size t n p r xs ys
      → Laid p.layout (tree_blocks bb_min bb_size end first t) r.layout xs ys
  laid_of {t} {n} {p} {r} {xs} {ys} {end} {k} {first} s w =
      subst (λ (f : ℕ). Laid p.layout (tree_blocks bb_min bb_size end f t) r.layout xs ys) s.points
      (subst (λ (e : ℕ). Laid p.layout (tree_blocks bb_min bb_size e p.first t) r.layout xs ys) s.ends w.laid)

-- ---- rooms for the subs

module _ (b : Aabb) (t0 t1 t2 t3 : Sector) {end first : ℕ} (room : TreeRoom (node b t0 t1 t2 t3) end first) where
  ends_of : end_of end (sizes (node b t0 t1 t2 t3)) ≡ end_of (from3 end t0 t1 t2) (sizes t3)
  unfolding sizes
  ends_of =
      end_append (behind end 96) (sizes t0) (sizes t1 ++ (sizes t2 ++ sizes t3))
      ∙ end_append (from1 end t0) (sizes t1) (sizes t2 ++ sizes t3)
      ∙ end_append (from2 end t0 t1) (sizes t2) (sizes t3)

  few_of : All FewIn (leaf_counts t0) × All FewIn (leaf_counts t1) × All FewIn (leaf_counts t2) × All FewIn (leaf_counts t3)
  unfolding leaf_counts
  few_of =
      let a = all_apart FewIn (leaf_counts t0) (leaf_counts t1 ++ (leaf_counts t2 ++ leaf_counts t3)) room.few in
      let c = all_apart FewIn (leaf_counts t1) (leaf_counts t2 ++ leaf_counts t3) a.1 in
      let d = all_apart FewIn (leaf_counts t2) (leaf_counts t3) c.1 in
      (a.0, c.0, d.0, d.1)

  numbers_of : first + (point_count t0 + (point_count t1 + (point_count t2 + point_count t3))) < 2 ^ 32
  unfolding point_count
  numbers_of = room.numbers

  pub room3 : TreeRoom t3 (from3 end t0 t1 t2) (first + (point_count t0 + (point_count t1 + point_count t2)))
  room3 = record { few = few_of.3; small = omega (arith, ends_of, room.small); numbers = omega (arith, numbers_of) }

  pub room2 : TreeRoom t2 (from2 end t0 t1) (first + (point_count t0 + point_count t1))
  room2 =
      let g = end_ge (from3 end t0 t1 t2) (sizes t3) in
      record { few = few_of.2; small = omega (arith, room3.small); numbers = omega (arith, numbers_of) }

  pub room1 : TreeRoom t1 (from1 end t0) (first + point_count t0)
  room1 =
      let g = end_ge (from2 end t0 t1) (sizes t2) in
      record { few = few_of.1; small = omega (arith, room2.small); numbers = omega (arith, numbers_of) }

  pub room0 : TreeRoom t0 (from0 end) first
  room0 =
      let g = end_ge (from1 end t0) (sizes t1) in
      record { few = few_of.0; small = omega (arith, room1.small); numbers = omega (arith, numbers_of) }

-- ---- a tree that is grown, its subs written from where the writer stands

-- a box that splits, with its subs and room for its tree, before the writer at `spot`
pub record Splitting : Type 0 where
  pub bb_min : Floats
  pub bb_size : Floats
  pub ids : QuarterBox → List ℕ
  pub stored : ℕ → List NavPoint
  pub depth : ℕ
  pub d : ℕ
  pub b : Aabb
  pub cursor : SectorCursor
  pub subs : Subs
  pub boxes : (subs.s0 ≡ sub0 b) × (subs.s1 ≡ sub1 b) × (subs.s2 ≡ sub2 b) × (subs.s3 ≡ sub3 b)
  pub deep : depth ≡ suc d
  pub numbers : cursor.leaf + 4 * 4 ^ d < 2 ^ 32
  pub room : TreeRoom (grown ids stored depth cursor.leaf b) cursor.layout.at cursor.first

module _ (f : Splitting) where
  -- a sub's tree and what was written of it, and what its call asks, by the names of the code
  abbrev tree : SectorCursor → Aabb → Sector
  tree p c = grown f.ids f.stored f.d p.leaf c

  abbrev WroteSub : (p r : SectorCursor) → Aabb → (xs ys : List ℕ) → Type 0
  WroteSub p r c xs ys = Wrote f.bb_min f.bb_size (tree p c) (4 ^ f.d) p r xs ys

  pub record SubRoom (p : SectorCursor) (c : Aabb) : Type 0 where
    pub numbers : p.leaf + 4 ^ f.d < 2 ^ 32
    pub room : TreeRoom (tree p c) p.layout.at p.first

  moved_room : {p : SectorCursor} {end k first : ℕ} {c b : Aabb} → c ≡ b → Stand p end k first → k ≤ f.cursor.leaf + 3 * 4 ^ f.d
      → TreeRoom (grown f.ids f.stored f.d k b) end first → SubRoom p c
  moved_room e s h r = record { numbers = omega (arith, s.leaves, f.numbers); room = rw (e, s.ends, s.leaves, s.points) r }

  moved : {p r : SectorCursor} {end k first : ℕ} {c b : Aabb} {xs ys : List ℕ} → c ≡ b → Stand p end k first
      → WroteSub p r c xs ys → Wrote f.bb_min f.bb_size (grown f.ids f.stored f.d k b) (4 ^ f.d) p r xs ys
  moved {p} {r} {end} {k} {first} {c} {b} {xs} {ys} e s h =
      subst (λ (j : ℕ). Wrote f.bb_min f.bb_size (grown f.ids f.stored f.d j b) (4 ^ f.d) p r xs ys) s.leaves
      (subst (λ (a : Aabb). WroteSub p r a xs ys) e h)

  abbrev end : ℕ
  end = f.cursor.layout.at

  abbrev g0 : Sector
  g0 = grown f.ids f.stored f.d f.cursor.leaf (sub0 f.b)

  abbrev g1 : Sector
  g1 = grown f.ids f.stored f.d (f.cursor.leaf + 4 ^ f.d) (sub1 f.b)

  abbrev g2 : Sector
  g2 = grown f.ids f.stored f.d (f.cursor.leaf + 2 * 4 ^ f.d) (sub2 f.b)

  abbrev g3 : Sector
  g3 = grown f.ids f.stored f.d (f.cursor.leaf + 3 * 4 ^ f.d) (sub3 f.b)

  as_node : TreeRoom (node f.b g0 g1 g2 g3) end f.cursor.first
  unfolding grown
  as_node = subst (λ (n : ℕ). TreeRoom (grown f.ids f.stored n f.cursor.leaf f.b) end f.cursor.first) f.deep f.room

  module _ {p0 : SectorCursor} (s0 : Stand p0 (from0 end) f.cursor.leaf f.cursor.first) where
    pub next0 : SubRoom p0 f.subs.s0
    next0 = moved_room f.boxes.0 s0 (omega arith) (room0 f.b g0 g1 g2 g3 as_node)

    module _ {p1 : SectorCursor} {x0 y0 : List ℕ} (w0 : WroteSub p0 p1 f.subs.s0 x0 y0) where
      stand1 : Stand p1 (from1 end g0) (f.cursor.leaf + 4 ^ f.d) (f.cursor.first + point_count g0)
      stand1 = stand_of f.bb_min f.bb_size s0 (moved f.boxes.0 s0 w0)

      pub next1 : SubRoom p1 f.subs.s1
      next1 = moved_room f.boxes.1 stand1 (omega arith) (room1 f.b g0 g1 g2 g3 as_node)

      module _ {p2 : SectorCursor} {y1 : List ℕ} (w1 : WroteSub p1 p2 f.subs.s1 y0 y1) where
        stand2 : Stand p2 (from2 end g0 g1) (f.cursor.leaf + 2 * 4 ^ f.d) (f.cursor.first + (point_count g0 + point_count g1))
        stand2 =
            let s = stand_of f.bb_min f.bb_size stand1 (moved f.boxes.1 stand1 w1) in
            record { ends = s.ends; leaves = omega (arith, s.leaves); points = omega (arith, s.points) }

        pub next2 : SubRoom p2 f.subs.s2
        next2 = moved_room f.boxes.2 stand2 (omega arith) (room2 f.b g0 g1 g2 g3 as_node)

        module _ {p3 : SectorCursor} {y2 : List ℕ} (w2 : WroteSub p2 p3 f.subs.s2 y1 y2) where
          stand3 : Stand p3 (from3 end g0 g1 g2) (f.cursor.leaf + 3 * 4 ^ f.d) (f.cursor.first + (point_count g0 + (point_count g1 + point_count g2)))
          stand3 =
              let s = stand_of f.bb_min f.bb_size stand2 (moved f.boxes.2 stand2 w2) in
              record { ends = s.ends; leaves = omega (arith, s.leaves); points = omega (arith, s.points) }

          pub next3 : SubRoom p3 f.subs.s3
          next3 = moved_room f.boxes.3 stand3 (omega arith) (room3 f.b g0 g1 g2 g3 as_node)

          -- all four, and the sector, which is stored last
          pub grown_wrote : {p4 : SectorCursor} {y3 ys : List ℕ} {at : ℕ} (xs : List ℕ) → p0.layout ≡ allocated f.cursor.layout 96
              → x0 ≡ put end (zeros (place_of end 96 - end)) xs → WroteSub p3 p4 f.subs.s3 y2 y3 → at ≡ place_of end 96
              → ys ≡ put at (row_bytes (sector_row f.b 0 (sector_address p0.layout.at) (sector_address p1.layout.at) (sector_address p2.layout.at) (sector_address p3.layout.at))) y3
              → Wrote f.bb_min f.bb_size (grown f.ids f.stored f.depth f.cursor.leaf f.b) (4 ^ f.depth) f.cursor p4 xs ys
          unfolding grown tree_blocks point_count
          grown_wrote {p4} {y3} xs own p w3 a e =
              let lo : Floats = f.bb_min in
              let size : Floats = f.bb_size in
              let v3 = moved f.boxes.3 stand3 w3 in
              let s4 = stand_of lo size stand3 v3 in
              let l0 = rw p at (laid_of lo size s0 (moved f.boxes.0 s0 w0)) in
              let l1 = laid_of lo size stand1 (moved f.boxes.1 stand1 w1) in
              let l2 = laid_of lo size stand2 (moved f.boxes.2 stand2 w2) in
              let l3 = laid_of lo size stand3 v3 in
              let row = sector_row f.b 0 (sector_address (from0 end)) (sector_address (from1 end g0)) (sector_address (from2 end g0 g1)) (sector_address (from3 end g0 g1 g2)) in
              let z = laid_before {l = f.cursor.layout} (length_rows row) own (laid_then l0 (laid_then l1 (laid_then l2 l3))) in
              let q : 4 ^ suc f.d ≡ 4 ^ f.d * 4 = pow-suc 4 f.d in
              rw f.deep (record {
                laid = rw (e, a, s0.ends, stand1.ends, stand2.ends, stand3.ends) z;
                next = omega (arith, s4.leaves);
                points = omega (arith, s4.points);
              })
