-- Where a written tree's blocks stand, the grammar reads a tree of as many sectors, whose points are the leaves' in preorder. Assumes nothing.
use mathlib.Core.Path.{◌≡◌, refl, sym, subst, ◌∙◌}
use mathlib.Core.List.{List, [], ◌∷◌, ◌++◌, append_assoc, append-nil, map-append}
use Prim.Native.Nat.{ℕ, zero, suc, ◌+◌, ◌*◌, ◌^◌, ◌≤◌, ◌<◌}
use native.Mathlib.Nat.{suc-add, add_assoc, add-zero, zero-add, mod-eq_of_lt}
use native.Mathlib.Omega.{arith}
use lib.ListN.{length}
use Rattle.fields.specs.Bytes.{le_at, les, cat}
use Rattle.fields.specs.Rows.{row_bytes}
use Rattle.fields.proofs.Bytes.{length_les}
use Rattle.fields.proofs.Holds.{Holds, held_end}
use Rattle.fields.proofs.Rows.{length_rows, field_back}
use Rattle.math.specs.declared.vec3.Vec3.{Vec3 as Floats}
use Rattle.quarters.specs.declared.bounds.Aabb.{Aabb}
use Rattle.strip.specs.Cell.{NavPoint}
use Rattle.strip.specs.Fits.{All}
use Rattle.write_blocks.specs.Layout.{place_of, behind, address}
use Rattle.write_blocks.proofs.Standing.{Stand, stand_first, stand_behind}
use Rattle.read_grammar.specs.Parts.{Good, Array}
use Rattle.read_grammar.specs.Trees.{Data, no_data, data_at, keep, subs_to, Trees, Tree}
use Rattle.write_blocks.specs.Optional.{block_of, size_of, address_of}
use Rattle.write_pages.specs.Sectors.{Sector, point_count, leaf_counts, sector_row, data_row, sizes, ids_from, points_from, data_from, from0, from1, from2, from3, sector_address, point_row, point_items, leaf_blocks, tree_blocks}
use Rattle.write_pages.specs.Preorder.{sector_count, preorder}
use Rattle.write_pages.specs.Sectors.Sector.{leaf, node}
use Rattle.write_pages.specs.Accepted.{FewIn}
use Rattle.strip.proofs.Alls.{all_apart}
use Rattle.write_pages.proofs.Sizes.{point_count_lem, block_size, length_points, wide_points, tree_lengths}
use Rattle.readback.proofs.Lists.{good, array_back, address_small}

-- a first block of n bytes
pub first_held : (P : List ℕ) (end n : ℕ) (b : List ℕ) → length b ≡ n → Holds P (place_of end (length b)) b → Holds P (place_of end n) b
first_held P end n b e h = subst (λ (j : ℕ). Holds P (place_of end j) b) e h

pub first_behind : (P : List ℕ) (end n : ℕ) (b : List ℕ) (bs : List (List ℕ)) → length b ≡ n → Stand P (behind end (length b)) bs → Stand P (behind end n) bs
first_behind P end n b bs e h = subst (λ (j : ℕ). Stand P (behind end j) bs) e h

-- ---- fields of a sector

keep_some : (n : ℕ) (l : List ℕ) → 0 < n → keep n l ≡ n ∷ l
keep_some zero l h = absurd (omega arith)
keep_some (suc n) l h = refl

module _ (b : Aabb) (d s0 s1 s2 s3 : ℕ) where
  abbrev row : List (ℕ × ℕ)
  row = sector_row b d s0 s1 s2 s3

  sector_data : d < 2 ^ 64 → le_at 8 (row_bytes row) 0x2C ≡ d
  sector_data h = field_back row 0x2C 8 d (omega arith) refl ∙ mod-eq_of_lt h

  sector_subs : s0 < 2 ^ 64 → s1 < 2 ^ 64 → s2 < 2 ^ 64 → s3 < 2 ^ 64 → subs_to (row_bytes row) 4 ≡ keep s3 (keep s2 (keep s1 (keep s0 [])))
  unfolding subs_to
  sector_subs h0 h1 h2 h3 =
      let e0 : le_at 8 (row_bytes row) 0x34 ≡ s0 = field_back row 0x34 8 s0 (omega arith) refl ∙ mod-eq_of_lt h0 in
      let e1 : le_at 8 (row_bytes row) 0x3C ≡ s1 = field_back row 0x3C 8 s1 (omega arith) refl ∙ mod-eq_of_lt h1 in
      let e2 : le_at 8 (row_bytes row) 0x44 ≡ s2 = field_back row 0x44 8 s2 (omega arith) refl ∙ mod-eq_of_lt h2 in
      let e3 : le_at 8 (row_bytes row) 0x4C ≡ s3 = field_back row 0x4C 8 s3 (omega arith) refl ∙ mod-eq_of_lt h3 in
      rw (e3, e2, e1, e0)

-- ---- trees

module _ (P tail graphics : List ℕ) (few : length P < 2 ^ 28) where
  abbrev S : List ℕ
  S = P ++ tail

  -- in a row
  trees_then : {s t : List ℕ} {n m : ℕ} {ps qs : List (List ℕ)} → Trees S graphics s n ps → Trees S graphics t m qs → Trees S graphics (s ++ t) (n + m) (ps ++ qs)
  trees_then {t = t} {m = m} {qs = qs} Trees.none r = subst (λ (k : ℕ). Trees S graphics t k qs) (sym (zero-add m)) r
  trees_then {m = m} {qs = qs} (Trees.tree {n = n} {m = k} {ps = ps} {qs = us} {rs = rs} g d r more) q =
      rw (suc-add, add_assoc n k m, append_assoc ps (us ++ rs) qs, append_assoc us rs qs) (Trees.tree g d r (trees_then more q))

  -- one, by its sector
  tree_at : {va n : ℕ} {s : List ℕ} {ps qs : List (List ℕ)} → Good S graphics va 96 s → Data S graphics s ps → Trees S graphics (subs_to s 4) n qs → Tree S graphics va (suc n) (ps ++ qs)
  tree_at {va} {n} {s} {ps} {qs} g d r =
      let z = Trees.tree g d r Trees.none in
      rw (add-zero n, append-nil qs) at z

  module _ (bb-min bb-size : Floats) where
    -- what is read of a tree
    abbrev pub items : Sector → List (List ℕ)
    items t = point_items bb-min bb-size (preorder t)

    -- ---- a leaf

    module _ (end first : ℕ) (b : Aabb) (is : List ℕ) (ts : List NavPoint) (fine : FewIn (length is, length ts))
        (blocks : Stand P end (leaf_blocks bb-min bb-size end first (length is) (length ts) b is ts)) where
      abbrev m : ℕ
      m = length is

      abbrev n : ℕ
      n = length ts

      abbrev leaf_row : List (ℕ × ℕ)
      leaf_row = sector_row b (address (place_of (data_from end m n) 32)) 0 0 0 0

      abbrev leaf_data : List (ℕ × ℕ)
      leaf_data = data_row first (address_of (ids_from end) (2 * m)) (address_of (points_from end m) (8 * n)) m n

      leaf_held : Holds P (place_of end 96) (row_bytes leaf_row)
      unfolding leaf_blocks
      leaf_held = first_held P end 96 (row_bytes leaf_row) (length_rows leaf_row) blocks.0

      -- points and data
      rest : Stand P (points_from end m) (block_of (cat (point_items bb-min bb-size ts)) ++ (row_bytes leaf_data ∷ []))
      unfolding leaf_blocks
      rest =
          stand_behind P (behind end 96) (block_of (les 2 is)) (block_of (cat (point_items bb-min bb-size ts)) ++ (row_bytes leaf_data ∷ [])) (size_of (2 * m))
          (block_size (2 * m) (les 2 is) (length_les 2 is))
          (first_behind P end 96 (row_bytes leaf_row) (block_of (les 2 is) ++ (block_of (cat (point_items bb-min bb-size ts)) ++ (row_bytes leaf_data ∷ []))) (length_rows leaf_row) blocks.1)

      points_block : Stand P (points_from end m) (block_of (cat (point_items bb-min bb-size ts)))
      points_block = stand_first P (points_from end m) (block_of (cat (point_items bb-min bb-size ts))) (row_bytes leaf_data ∷ []) rest

      data_held : Holds P (place_of (data_from end m n) 32) (row_bytes leaf_data)
      data_held =
          first_held P (data_from end m n) 32 (row_bytes leaf_data) (length_rows leaf_data)
          (stand_behind P (points_from end m) (block_of (cat (point_items bb-min bb-size ts))) (row_bytes leaf_data ∷ []) (size_of (8 * n))
          (block_size (8 * n) (cat (point_items bb-min bb-size ts)) (length_points bb-min bb-size ts)) rest).0

      data_place : place_of (data_from end m n) 32 + 32 ≤ length P
      data_place = omega (arith, held_end data_held, length_rows leaf_data)

      leaf_points : Array S graphics 8 (le_at 8 (row_bytes leaf_data) 0x10) (le_at 2 (row_bytes leaf_data) 0x1A) (point_items bb-min bb-size ts)
      leaf_points =
          let va : le_at 8 (row_bytes leaf_data) 0x10 ≡ address_of (points_from end m) (8 * n) =
          field_back leaf_data 0x10 8 (address_of (points_from end m) (8 * n)) (omega arith) refl
          ∙ mod-eq_of_lt (address_small P (points_from end m) (8 * n) (cat (point_items bb-min bb-size ts)) few (length_points bb-min bb-size ts) points_block) in
          let count : le_at 2 (row_bytes leaf_data) 0x1A ≡ n = field_back leaf_data 0x1A 2 n (omega arith) refl ∙ omega (arith, fine.points) in
          rw (va, count)
          (subst (λ (j : ℕ). Array S graphics 8 (address_of (points_from end m) (8 * j)) j (point_items bb-min bb-size ts)) (point_count_lem bb-min bb-size ts)
          (array_back P tail graphics few 8 (points_from end m) (point_items bb-min bb-size ts) (omega arith) (wide_points bb-min bb-size ts) points_block))

      leaf_tree : Tree S graphics (sector_address end) 1 (point_items bb-min bb-size ts)
      leaf_tree =
          let va : le_at 8 (row_bytes leaf_row) 0x2C ≡ address (place_of (data_from end m n) 32) =
          sector_data b (address (place_of (data_from end m n) 32)) 0 0 0 0 (omega (arith, data_place)) in
          let d : Data S graphics (row_bytes leaf_row) (point_items bb-min bb-size ts) =
          data_at {d = row_bytes leaf_data} (rw va (omega arith)) (rw va (good P tail graphics few 32 (length_rows leaf_data) (omega arith) data_held)) leaf_points in
          let subs : subs_to (row_bytes leaf_row) 4 ≡ [] =
          sector_subs b (address (place_of (data_from end m n) 32)) 0 0 0 0 (omega arith) (omega arith) (omega arith) (omega arith) in
          let none : Trees S graphics (subs_to (row_bytes leaf_row) 4) 0 [] = rw subs Trees.none in
          let z = tree_at (good P tail graphics few 96 (length_rows leaf_row) (omega arith) leaf_held) d none in
          rw (append-nil (point_items bb-min bb-size ts)) at z

    -- ---- a sector with subs

    -- the place of a tree's first block
    tree_place : (end first : ℕ) (t : Sector) → Stand P end (tree_blocks bb-min bb-size end first t) → place_of end 96 + 96 ≤ length P
    unfolding tree_blocks leaf_blocks
    tree_place end first (leaf b is ts) h =
        let r = sector_row b (address (place_of (data_from end (length is) (length ts)) 32)) 0 0 0 0 in
        subst (λ (j : ℕ). place_of end j + j ≤ length P) (length_rows r) (held_end h.0)
    tree_place end first (node b t0 t1 t2 t3) h =
        let r = sector_row b 0 (sector_address (from0 end)) (sector_address (from1 end t0)) (sector_address (from2 end t0 t1)) (sector_address (from3 end t0 t1 t2)) in
        subst (λ (j : ℕ). place_of end j + j ≤ length P) (length_rows r) (held_end h.0)

    module _ (end first : ℕ) (b : Aabb) (t0 t1 t2 t3 : Sector) (blocks : Stand P end (tree_blocks bb-min bb-size end first (node b t0 t1 t2 t3))) where
      abbrev node_row : List (ℕ × ℕ)
      node_row = sector_row b 0 (sector_address (from0 end)) (sector_address (from1 end t0)) (sector_address (from2 end t0 t1)) (sector_address (from3 end t0 t1 t2))

      abbrev b0 : List (List ℕ)
      b0 = tree_blocks bb-min bb-size (from0 end) first t0

      abbrev b1 : List (List ℕ)
      b1 = tree_blocks bb-min bb-size (from1 end t0) (first + point_count t0) t1

      abbrev b2 : List (List ℕ)
      b2 = tree_blocks bb-min bb-size (from2 end t0 t1) (first + (point_count t0 + point_count t1)) t2

      abbrev b3 : List (List ℕ)
      b3 = tree_blocks bb-min bb-size (from3 end t0 t1 t2) (first + (point_count t0 + (point_count t1 + point_count t2))) t3

      record Subs : Type 0 where
        sub0 : Stand P (from0 end) b0
        sub1 : Stand P (from1 end t0) b1
        sub2 : Stand P (from2 end t0 t1) b2
        sub3 : Stand P (from3 end t0 t1 t2) b3

      node_held : Holds P (place_of end 96) (row_bytes node_row)
      unfolding tree_blocks
      node_held = first_held P end 96 (row_bytes node_row) (length_rows node_row) blocks.0

      subs_stand : Subs
      unfolding tree_blocks
      subs_stand =
          let r0 = first_behind P end 96 (row_bytes node_row) (b0 ++ (b1 ++ (b2 ++ b3))) (length_rows node_row) blocks.1 in
          let r1 = stand_behind P (from0 end) b0 (b1 ++ (b2 ++ b3)) (sizes t0) (tree_lengths bb-min bb-size (from0 end) first t0) r0 in
          let r2 = stand_behind P (from1 end t0) b1 (b2 ++ b3) (sizes t1) (tree_lengths bb-min bb-size (from1 end t0) (first + point_count t0) t1) r1 in
          let r3 = stand_behind P (from2 end t0 t1) b2 b3 (sizes t2) (tree_lengths bb-min bb-size (from2 end t0 t1) (first + (point_count t0 + point_count t1)) t2) r2 in
          record {
            sub0 = stand_first P (from0 end) b0 (b1 ++ (b2 ++ b3)) r0;
            sub1 = stand_first P (from1 end t0) b1 (b2 ++ b3) r1;
            sub2 = stand_first P (from2 end t0 t1) b2 b3 r2;
            sub3 = r3;
          }

      node_subs : subs_to (row_bytes node_row) 4
          ≡ sector_address (from3 end t0 t1 t2) ∷ sector_address (from2 end t0 t1) ∷ sector_address (from1 end t0) ∷ sector_address (from0 end) ∷ []
      node_subs =
          let s = subs_stand in
          let p0 = tree_place (from0 end) first t0 s.sub0 in
          let p1 = tree_place (from1 end t0) (first + point_count t0) t1 s.sub1 in
          let p2 = tree_place (from2 end t0 t1) (first + (point_count t0 + point_count t1)) t2 s.sub2 in
          let p3 = tree_place (from3 end t0 t1 t2) (first + (point_count t0 + (point_count t1 + point_count t2))) t3 s.sub3 in
          sector_subs b 0 (sector_address (from0 end)) (sector_address (from1 end t0)) (sector_address (from2 end t0 t1)) (sector_address (from3 end t0 t1 t2))
          (omega arith) (omega arith) (omega arith) (omega arith)
          ∙ rw (
            keep_some (sector_address (from0 end)) [] (omega arith),
            keep_some (sector_address (from1 end t0)) (sector_address (from0 end) ∷ []) (omega arith),
            keep_some (sector_address (from2 end t0 t1)) (sector_address (from1 end t0) ∷ sector_address (from0 end) ∷ []) (omega arith),
            keep_some (sector_address (from3 end t0 t1 t2)) (sector_address (from2 end t0 t1) ∷ sector_address (from1 end t0) ∷ sector_address (from0 end) ∷ []) (omega arith),
          )

      node_tree : {n0 n1 n2 n3 : ℕ} {p0 p1 p2 p3 : List (List ℕ)}
          → Tree S graphics (sector_address (from0 end)) n0 p0
          → Tree S graphics (sector_address (from1 end t0)) n1 p1
          → Tree S graphics (sector_address (from2 end t0 t1)) n2 p2
          → Tree S graphics (sector_address (from3 end t0 t1 t2)) n3 p3
          → Tree S graphics (sector_address end) (suc (n3 + (n2 + (n1 + n0)))) (p3 ++ (p2 ++ (p1 ++ p0)))
      node_tree {n0} {n1} {n2} {n3} {p0} {p1} {p2} {p3} r0 r1 r2 r3 =
          let all = trees_then r3 (trees_then r2 (trees_then r1 r0)) in
          let d : Data S graphics (row_bytes node_row) [] =
          no_data (sector_data b 0 (sector_address (from0 end)) (sector_address (from1 end t0)) (sector_address (from2 end t0 t1)) (sector_address (from3 end t0 t1 t2)) (omega arith)) in
          tree_at (good P tail graphics few 96 (length_rows node_row) (omega arith) node_held) d (subst (λ (l : List ℕ). Trees S graphics l (n3 + (n2 + (n1 + n0))) (p3 ++ (p2 ++ (p1 ++ p0)))) (sym node_subs) all)

    -- ---- the theorem

    node_items : (p0 p1 p2 p3 : List NavPoint)
        → point_items bb-min bb-size p3 ++ (point_items bb-min bb-size p2 ++ (point_items bb-min bb-size p1 ++ point_items bb-min bb-size p0)) ≡ point_items bb-min bb-size (p3 ++ (p2 ++ (p1 ++ p0)))
    unfolding point_items
    node_items p0 p1 p2 p3 =
        let f : NavPoint → List ℕ = λ t. row_bytes (point_row bb-min bb-size t) in
        sym (rw (map-append f p3 (p2 ++ (p1 ++ p0)), map-append f p2 (p1 ++ p0), map-append f p1 p0))

    pub tree_back : (end first : ℕ) (t : Sector) → All FewIn (leaf_counts t) → Stand P end (tree_blocks bb-min bb-size end first t)
        → Tree S graphics (sector_address end) (sector_count t) (items t)
    unfolding preorder sector_count leaf_counts tree_blocks
    tree_back end first (leaf b is ts) fine h = leaf_tree end first b is ts fine.0 h
    tree_back end first (node b t0 t1 t2 t3) fine h =
        let f0 = all_apart FewIn (leaf_counts t0) (leaf_counts t1 ++ (leaf_counts t2 ++ leaf_counts t3)) fine in
        let f1 = all_apart FewIn (leaf_counts t1) (leaf_counts t2 ++ leaf_counts t3) f0.1 in
        let f2 = all_apart FewIn (leaf_counts t2) (leaf_counts t3) f1.1 in
        let s = subs_stand end first b t0 t1 t2 t3 h in
        let z =
        node_tree end first b t0 t1 t2 t3 h
        (tree_back (from0 end) first t0 f0.0 s.sub0)
        (tree_back (from1 end t0) (first + point_count t0) t1 f1.0 s.sub1)
        (tree_back (from2 end t0 t1) (first + (point_count t0 + point_count t1)) t2 f2.0 s.sub2)
        (tree_back (from3 end t0 t1 t2) (first + (point_count t0 + (point_count t1 + point_count t2))) t3 f2.1 s.sub3) in
        let count : suc (sector_count t3 + (sector_count t2 + (sector_count t1 + sector_count t0))) ≡ 1 + (sector_count t0 + (sector_count t1 + (sector_count t2 + sector_count t3))) = omega arith in
        subst (λ (k : ℕ). Tree S graphics (sector_address end) k (point_items bb-min bb-size (preorder t3 ++ (preorder t2 ++ (preorder t1 ++ preorder t0))))) count
        (subst (λ (l : List (List ℕ)). Tree S graphics (sector_address end) (suc (sector_count t3 + (sector_count t2 + (sector_count t1 + sector_count t0)))) l) (node_items (preorder t0) (preorder t1) (preorder t2) (preorder t3)) z)
