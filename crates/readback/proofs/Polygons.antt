-- The polygons that the grammar reads in the written items are the polygons again. Assumes nothing.
use mathlib.Core.Path.{◌≡◌, refl, sym, ap, subst, ◌∙◌}
use mathlib.Core.List.{List, [], ◌∷◌, map, map-append}
use Prim.Native.Nat.{ℕ, ◌+◌, ◌*◌, ◌/◌, ◌%◌, ◌^◌, ◌≤◌, ◌<◌}
use native.Mathlib.Nat.{mod-eq_of_lt}
use native.Mathlib.Omega.{arith}
use lib.ListN.{length, take, drop, get_or, length-map}
use borrow.Author.Tests.{le-leb}
use Rattle.fields.specs.Bytes.{le_at}
use Rattle.fields.specs.Rows.{row_bytes, pack, field}
use Rattle.fields.proofs.Holds.{Holds, held_first, held_second, held_end, held_taken}
use Rattle.fields.proofs.Rows.{field_back, pack_lt, bits_back}
use Rattle.math.specs.declared.vec3.Vec3.{Vec3 as Floats}
use Rattle.quantise.specs.Short.{shorts}
use Rattle.quantise.proofs.Capped.{short_lt}
use Rattle.strip.specs.Cell.{Vec3, NavEdgeEnd, NavEdge, NavPoly, Head}
use Rattle.strip.specs.Fits.{All}
use Rattle.distinct.specs.Distinct.{index_of}
use Rattle.distinct.specs.Members.{In}
use Rattle.distinct.proofs.Final.{found}
use Rattle.areas.specs.declared.edge.RawEnd.{RawEnd}
use Rattle.areas.proofs.EdgeHalf.{half_lt, end_back}
use Rattle.read_grammar.specs.Polygons as read
use Rattle.read_grammar.specs.Polygons.{edge_of, vertex_of, link_run, PolygonOf, Each, none, more}
use Rattle.read_grammar.specs.Derives.{axis, back_of}
use Rattle.write_pages.specs.Items.{floats, polys_per_part, Corner, gather, triple_in, corners_of, corners_in, corners, triples, named, links_of, vertex_row, index_row, half_of, edge_row, vertex_items, index_items, edge_items, polygon_row, polygon_items}
use Rattle.write_pages.specs.Reread.{half_again, edge_again, position_again, polygon_again}
use Rattle.write_pages.specs.Accepted.{Checked, AllChecked}
use Rattle.strip.proofs.Alls.{all_apart}
use Rattle.write_pages.proofs.Lists.{map_at}
use Rattle.write_pages.proofs.Sizes.{length_vertices, length_indices, length_edges}
use Rattle.write_pages.proofs.Placed.{length_corners}
use Rattle.readback.proofs.Formed.{WordPolygon}

-- a corner whose vertex and areas stand in the tables
pub record Known (vs areas : List ℕ) (k : Corner) : Type 0 where
  pub vertex : In vs k.vertex
  pub a : In areas k.edge.a.area
  pub b : In areas k.edge.b.area

pub all_known : (vs areas : List ℕ) (ks : List Corner) → All (In vs) (triples ks) → All (In areas) (named ks) → All (Known vs areas) ks
unfolding named
all_known vs areas [] h k = tt
all_known vs areas (c ∷ ks) h k = (record { vertex = h.0; a = k.0; b = k.1.0 }, all_known vs areas ks h.1 k.1.1)

-- the three shorts of a number
digits : (x y z : ℕ) → x < 65536 → y < 65536 → z < 65536
    → ((x + 2 ^ 16 * y + 2 ^ 32 * z) % 256 ^ 2 ≡ x) × ((x + 2 ^ 16 * y + 2 ^ 32 * z) / 2 ^ 16 % 256 ^ 2 ≡ y) × ((x + 2 ^ 16 * y + 2 ^ 32 * z) / 2 ^ 32 % 256 ^ 2 ≡ z)
digits x y z hx hy hz =
    let above : (x + 2 ^ 16 * y + 2 ^ 32 * z) / 2 ^ 16 ≡ y + 2 ^ 16 * z = omega arith in
    let top : (x + 2 ^ 16 * y + 2 ^ 32 * z) / 2 ^ 32 ≡ z = omega arith in
    (omega arith, rw above (omega arith), rw top (omega arith))

module _ (h : Head) where
  abbrev pub bb_min : Floats
  bb_min = floats h.bb_min

  abbrev pub bb_size : Floats
  bb_size = floats h.bb_size

  -- shorts turned back
  pub position_back : (v : Vec3) → back_of h (shorts (floats v) bb_min bb_size).x (shorts (floats v) bb_min bb_size).y (shorts (floats v) bb_min bb_size).z ≡ position_again bb_min bb_size v
  unfolding back_of axis position_again
  position_back v = refl

  module _ (own : ℕ) (vs areas : List ℕ) (area : ℕ → ℕ) (few-vs : length vs ≤ 65536) (few-areas : length areas ≤ 32)
      (area-is : (i : ℕ) → i < length areas → area i ≡ get_or areas i 0) where
    -- ---- edges

    half_back : (g : NavEdgeEnd) → In areas g.area → read.half_of area (half_of areas g) ≡ half_again g
    unfolding read.half_of half_again
    half_back g k =
        let i : ℕ = index_of areas g.area in
        let here : area (i % 2 ^ 5) ≡ g.area = ap area (omega arith) ∙ area-is i k ∙ found areas g.area k in
        ap (λ (r : RawEnd). record { area = area r.index; poly = r.poly; unk3 = r.unk3; unk2 = r.unk2 }) (end_back i g.poly g.unk2 g.unk3)
        ∙ ap (λ (x : ℕ). record { area = x; poly = g.poly % 2 ^ 14; unk3 = g.unk3 % 2 ^ 11; unk2 = g.unk2 % 2 ^ 2 }) here

    edge_back : (k : Corner) → Known vs areas k → edge_of area (row_bytes (edge_row areas k)) ≡ edge_again k.edge
    unfolding edge_of edge_again
    edge_back k known =
        let row = edge_row areas k in
        let f = k.edge.a in
        let g = k.edge.b in
        let first : le_at 4 (row_bytes row) 0 ≡ half_of areas f = field_back row 0 4 (half_of areas f) (omega arith) refl ∙ mod-eq_of_lt (half_lt (index_of areas f.area) f.poly f.unk2 f.unk3) in
        let second : le_at 4 (row_bytes row) 4 ≡ half_of areas g = field_back row 4 4 (half_of areas g) (omega arith) refl ∙ mod-eq_of_lt (half_lt (index_of areas g.area) g.poly g.unk2 g.unk3) in
        rw (first, second, half_back f known.a, half_back g known.b)

    edges_back : (ks : List Corner) → All (Known vs areas) ks → map (edge_of area) (edge_items areas ks) ≡ map (λ k. edge_again k.edge) ks
    unfolding edge_items
    edges_back [] known = refl
    edges_back (k ∷ ks) known = rw (edge_back k known.0, edges_back ks known.1)

    -- ---- vertices

    index_back : (k : Corner) → Known vs areas k → le_at 2 (row_bytes (index_row vs k)) 0 ≡ index_of vs k.vertex
    index_back k known = field_back (index_row vs k) 0 2 (index_of vs k.vertex) (omega arith) refl ∙ omega (arith, known.vertex)

    -- the vertex of an index
    abbrev vertex_at : List ℕ → Vec3
    vertex_at i = vertex_of (back_of h) (get_or (vertex_items vs) (le_at 2 i 0) [])

    abbrev turned : ℕ → Vec3
    turned t = back_of h (t % 256 ^ 2) (t / 2 ^ 16 % 256 ^ 2) (t / 2 ^ 32 % 256 ^ 2)

    vertex_back : (k : Corner) → Known vs areas k → vertex_at (row_bytes (index_row vs k)) ≡ turned k.vertex
    unfolding vertex_of vertex_items
    vertex_back k known =
        let t : ℕ = k.vertex in
        let item : get_or (map (λ t. row_bytes (vertex_row t)) vs) (index_of vs t) [] ≡ row_bytes (vertex_row t) =
        map_at (λ t. row_bytes (vertex_row t)) vs (index_of vs t) 0 [] known.vertex ∙ ap (λ (t : ℕ). row_bytes (vertex_row t)) (found vs t known.vertex) in
        rw (
          index_back k known,
          item,
          field_back (vertex_row t) 0 2 t (omega arith) refl,
          field_back (vertex_row t) 2 2 (t / 2 ^ 16) (omega arith) refl,
          field_back (vertex_row t) 4 2 (t / 2 ^ 32) (omega arith) refl,
        )

    triple_back : (v : Vec3) → turned (triple_in bb_min bb_size v) ≡ position_again bb_min bb_size v
    unfolding triple_in
    triple_back v =
        let q = shorts (floats v) bb_min bb_size in
        let d = digits q.x q.y q.z (short_lt (floats v).x bb_min.x bb_size.x) (short_lt (floats v).y bb_min.y bb_size.y) (short_lt (floats v).z bb_min.z bb_size.z) in
        rw (d.0, d.1, d.2) (position_back v)

    indices_back : (ks : List Corner) → All (Known vs areas) ks → map vertex_at (index_items vs ks) ≡ map (λ k. turned k.vertex) ks
    unfolding index_items
    indices_back [] known = refl
    indices_back (k ∷ ks) known = rw (vertex_back k known.0, indices_back ks known.1)

    corners_back : (us : List Vec3) (es : List NavEdge) → map (λ k. turned k.vertex) (corners_of bb_min bb_size us es) ≡ map (position_again bb_min bb_size) us
    unfolding corners_of
    corners_back [] es = refl
    corners_back (v ∷ us) [] = rw (triple_back v, corners_back us [])
    corners_back (v ∷ us) (e ∷ es) = rw (triple_back v, corners_back us es)

    below_back : (ks : List Corner) → All (Known vs areas) ks → All (λ i. le_at 2 i 0 < length (vertex_items vs)) (index_items vs ks)
    unfolding index_items
    below_back [] known = tt
    below_back (k ∷ ks) known = (rw (index_back k known.0, length_vertices vs) known.0.vertex, below_back ks known.1)

    -- ---- a polygon, whose run stands at `start` of the indices and edges, and whose links stand at `before` of the links

    polygon_back : (k start before : ℕ) (p : NavPoly) (indices edges : List (List ℕ)) (links : List ℕ) → WordPolygon p → Checked start p → k ≤ 16382 → before ≤ 7 * k
        → All (Known vs areas) (corners_in bb_min bb_size p)
        → Holds indices start (index_items vs (corners_in bb_min bb_size p))
        → Holds edges start (edge_items areas (corners_in bb_min bb_size p))
        → Holds links before p.links
        → PolygonOf (vertex_items vs) indices edges links area (back_of h) (row_bytes (polygon_row own k start before p)) (polygon_again bb_min bb_size p)
    unfolding polygon_again link_run
    polygon_back k start before p indices edges links word fine low-k low-before known ix es ls =
        let row = polygon_row own k start before p in
        let b = row_bytes row in
        let ks = corners_in bb_min bb_size p in
        let n : ℕ = length p.vertices in
        let l : ℕ = length p.links in
        let count : List (ℕ × ℕ) = (5, 0) ∷ (11, n) ∷ [] in
        let part : List (ℕ × ℕ) = (4, 0) ∷ (8, k / polys_per_part) ∷ (3, l) ∷ (17, before) ∷ [] in
        let e0 : le_at 2 b 0 ≡ p.flags0 = field_back row 0 2 p.flags0 (omega arith) refl ∙ mod-eq_of_lt word.flags0 in
        let e2 : field 5 11 (le_at 2 b 2) ≡ n =
        ap (field 5 11) (field_back row 2 2 (pack count) (omega arith) refl ∙ mod-eq_of_lt (pack_lt count)) ∙ bits_back count 5 11 n refl ∙ omega (arith, fine.most_vertices) in
        let e4 : le_at 2 b 4 ≡ start = field_back row 4 2 start (omega arith) refl ∙ omega (arith, fine.start_fits) in
        let e24 : le_at 4 b 0x24 ≡ p.flags1 = field_back row 0x24 4 p.flags1 (omega arith) refl ∙ mod-eq_of_lt word.flags1 in
        let e28 : le_at 4 b 0x28 ≡ p.flags2 = field_back row 0x28 4 p.flags2 (omega arith) refl ∙ mod-eq_of_lt word.flags2 in
        let e2C : le_at 4 b 0x2C ≡ pack part = field_back row 0x2C 4 (pack part) (omega arith) refl ∙ mod-eq_of_lt (pack_lt part) in
        let before-is : field 15 17 (le_at 4 b 0x2C) ≡ before = ap (field 15 17) e2C ∙ bits_back part 15 17 before refl ∙ omega arith in
        let links-is : field 12 3 (le_at 4 b 0x2C) ≡ l = ap (field 12 3) e2C ∙ bits_back part 12 3 l refl ∙ omega (arith, fine.few_links) in
        let long : length ks ≡ n = length_corners bb_min bb_size p.vertices p.edges in
        let ix-length : length (index_items vs ks) ≡ n = length_indices vs ks ∙ long in
        let es-length : length (edge_items areas ks) ≡ n = length_edges areas ks ∙ long in
        let ix-run : read.run_of b indices ≡ index_items vs ks =
        rw (e2, e4) (subst (λ (j : ℕ). take j (drop start indices) ≡ index_items vs ks) ix-length (held_taken ix)) in
        let es-run : read.run_of b edges ≡ edge_items areas ks =
        rw (e2, e4) (subst (λ (j : ℕ). take j (drop start edges) ≡ edge_items areas ks) es-length (held_taken es)) in
        record {
          in_indices = omega (arith, held_end ix);
          in_edges = omega (arith, held_end es);
          below = rw ix-run (below_back ks known);
          flags0 = sym e0;
          flags1 = sym e24;
          flags2 = sym e28;
          links_are = rw (before-is, links-is, le-leb (before + l) (length links) (held_end ls), held_taken ls);
          vertices_are = sym (ap (map vertex_at) ix-run ∙ indices_back ks known ∙ corners_back p.vertices p.edges);
          edges_are = sym (ap (map (edge_of area)) es-run ∙ edges_back ks known);
        }

    -- ---- all of them

    pub polygons_back : (k start before : ℕ) (ps : List NavPoly) (indices edges : List (List ℕ)) (links : List ℕ)
        → All WordPolygon ps → AllChecked start ps → k + length ps ≤ 16383 → before ≤ 7 * k
        → All (Known vs areas) (corners bb_min bb_size ps)
        → Holds indices start (index_items vs (corners bb_min bb_size ps))
        → Holds edges start (edge_items areas (corners bb_min bb_size ps))
        → Holds links before (links_of ps)
        → Each (PolygonOf (vertex_items vs) indices edges links area (back_of h)) (polygon_items own k start before ps) (map (polygon_again bb_min bb_size) ps)
    unfolding gather index_items edge_items polygon_items
    polygons_back k start before [] indices edges links word fine few low-before known ix es ls = none
    polygons_back k start before (p ∷ ps) indices edges links word fine few low-before known ix es ls =
        let here = corners_in bb_min bb_size p in
        let rest = corners bb_min bb_size ps in
        let ki : Corner → List ℕ = λ k. row_bytes (index_row vs k) in
        let ke : Corner → List ℕ = λ k. row_bytes (edge_row areas k) in
        let ix' = subst (λ (l : List (List ℕ)). Holds indices start l) (map-append ki here rest) ix in
        let es' = subst (λ (l : List (List ℕ)). Holds edges start l) (map-append ke here rest) es in
        let long : length here ≡ length p.vertices = length_corners bb_min bb_size p.vertices p.edges in
        let il : length (map ki here) ≡ length p.vertices = length-map here ki ∙ long in
        let el : length (map ke here) ≡ length p.vertices = length-map here ke ∙ long in
        let known' = all_apart (Known vs areas) here rest known in
        more
        (polygon_back k start before p indices edges links word.0 fine.0 (omega arith) low-before known'.0
        (held_first (map ki here) (map ki rest) ix') (held_first (map ke here) (map ke rest) es') (held_first p.links (links_of ps) ls))
        (polygons_back (k + 1) (start + length p.vertices) (before + length p.links) ps indices edges links word.1 fine.1 (omega arith) (omega (arith, fine.0.few_links))
        known'.1
        (subst (λ (j : ℕ). Holds indices (start + j) (map ki rest)) il (held_second (map ki here) (map ki rest) ix'))
        (subst (λ (j : ℕ). Holds edges (start + j) (map ke rest)) el (held_second (map ke here) (map ke rest) es'))
        (held_second p.links (links_of ps) ls))
