-- Written pages derive the strip of the cell as it is read again, whatever follows the pages and whatever the graphics section. Assumes nothing.
use mathlib.Core.Path.{◌≡◌, refl, sym, subst}
use mathlib.Core.List.{List, [], ◌++◌}
use Prim.Native.Nat.{ℕ, ◌*◌, ◌^◌, ◌<◌}
use native.Mathlib.Omega.{arith}
use lib.ListN.{length, get_or}
use Rattle.fields.specs.Bytes.{le_at, les, cat}
use Rattle.fields.proofs.Bytes.{length_les}
use Rattle.fields.proofs.Holds.{Holds, all_held, held_end}
use Rattle.strip.specs.Cell.{Cell, encode}
use Rattle.strip.specs.Fits.{All, PointFits, InRange}
use Rattle.strip.proofs.Box.{FiniteBox, box_finite}
use Rattle.areas.specs.Areas.{seeded}
use Rattle.write_blocks.specs.Layout.{place_of, address}
use Rattle.write_blocks.specs.Lists.{list_sizes, list_blocks}
use Rattle.write_blocks.proofs.Standing.{Stand, stand, stand_first, stand_behind, list_place}
use Rattle.read_grammar.specs.Parts.{Array}
use Rattle.read_grammar.specs.Polygons.{links_at}
use Rattle.read_grammar.specs.Derives.{area_of, vec_of, head_of, Makes, Derives}
use Rattle.write_pages.specs.Items.{triples, named, vertex_items, index_items, edge_items, polygon_items, links_of}
use Rattle.write_blocks.specs.Optional.{block_of, size_of, address_of}
use Rattle.write_pages.specs.Sectors as Sectors
use Rattle.write_pages.specs.Sectors.{tree_blocks, point_items}
use Rattle.write_pages.specs.Preorder.{sector_count, preorder}
use Rattle.write_pages.specs.Pages.{Places, HeaderCounts, portal_items, all_corners, bb_min, bb_size, vertices, areas, links, sectors, counts, end_header, end_vertices, end_indices, end_edges, end_polygons, end_sectors, end_portals, places_of, header_bytes, header, blocks, pages}
use Rattle.write_pages.specs.Reread.{reread}
use Rattle.write_pages.specs.Accepted.{Accepted}
use Rattle.write_pages.proofs.Sizes as Sizes
use Rattle.write_pages.proofs.Sizes.{length_vertices, length_indices, length_edges, list_size, wide_vertices, wide_indices, wide_edges, wide_polygons, wide_portals, length_polygons, length_portals, header_length, block_size, tree_lengths}
use Rattle.write_pages.proofs.Placed.{pages_short, few_corners}
use Rattle.readback.proofs.Formed.{Formed, formed}
use Rattle.readback.proofs.Lists.{good, items_back, array_back, address_small}
use Rattle.readback.proofs.Header as back
use Rattle.readback.proofs.Polygons.{Known, all_known, polygons_back}
use Rattle.readback.proofs.Portals.{portals_back, points_back, link_table}
use Rattle.readback.proofs.Tables.{all_in, area_words, link_shorts}
use Rattle.readback.proofs.Trees.{first_held, first_behind, tree_back}
use Rattle.readback.proofs.Root.{box_at, Root, tree_root, sectors_count, sectors_points, root_min, root_max}
use Rattle.fields.specs.Sizes.{list_vft_edges, list_vft_indices, list_vft_polys, list_vft_vertices}

module _ (c : Cell) where
  abbrev N : HeaderCounts
  N = counts c

  abbrev T : Sectors.Sector
  T = sectors c

  abbrev P : List ℕ
  P = pages c

  abbrev vertex_part : List (List ℕ)
  vertex_part = vertex_items (vertices c)

  abbrev index_part : List (List ℕ)
  index_part = index_items (vertices c) (all_corners c)

  abbrev edge_part : List (List ℕ)
  edge_part = edge_items (areas c) (all_corners c)

  abbrev polygon_part : List (List ℕ)
  polygon_part = polygon_items c.head.area 0 0 0 c.polys

  abbrev portal_part : List (List ℕ)
  portal_part = portal_items (bb_min c) (bb_size c) c.portals

  -- every block stands where the layout puts it
  record Standing : Type 0 where
    header_block : Holds P 0 (header c)
    vertex_blocks : Stand P (end_header N T) (list_blocks (end_header N T) list_vft_vertices 6 vertex_part)
    index_blocks : Stand P (end_vertices N T) (list_blocks (end_vertices N T) list_vft_indices 2 index_part)
    edge_blocks : Stand P (end_indices N T) (list_blocks (end_indices N T) list_vft_edges 8 edge_part)
    polygon_blocks : Stand P (end_edges N T) (list_blocks (end_edges N T) list_vft_polys 48 polygon_part)
    sector_blocks : Stand P (end_polygons N T) (tree_blocks (bb_min c) (bb_size c) (end_polygons N T) 0 T)
    portal_blocks : Stand P (end_sectors N T) (block_of (cat portal_part))
    link_blocks : Stand P (end_portals N T) (block_of (les 2 (links c)))

  standing : Standing
  unfolding pages blocks header counts end_header end_vertices end_indices end_edges end_polygons end_sectors end_portals place_of
  standing =
      let vb = list_blocks (end_header N T) list_vft_vertices 6 vertex_part in
      let ib = list_blocks (end_vertices N T) list_vft_indices 2 index_part in
      let eb = list_blocks (end_indices N T) list_vft_edges 8 edge_part in
      let qb = list_blocks (end_edges N T) list_vft_polys 48 polygon_part in
      let tb = tree_blocks (bb_min c) (bb_size c) (end_polygons N T) 0 T in
      let rb = block_of (cat portal_part) in
      let lb = block_of (les 2 (links c)) in
      let all = stand (blocks c) in
      let long : length (header c) ≡ 368 = header_length c.head (places_of N T) N (areas c) in
      let s₁ = first_behind P 0 368 (header c) (vb ++ (ib ++ (eb ++ (qb ++ (tb ++ (rb ++ lb)))))) long all.1 in
      let s₂ = stand_behind P (end_header N T) vb (ib ++ (eb ++ (qb ++ (tb ++ (rb ++ lb))))) (list_sizes 6 N.vertices) (list_size (end_header N T) list_vft_vertices 6 N.vertices vertex_part (wide_vertices (vertices c)) (length_vertices (vertices c))) s₁ in
      let s₃ = stand_behind P (end_vertices N T) ib (eb ++ (qb ++ (tb ++ (rb ++ lb)))) (list_sizes 2 N.indices) (list_size (end_vertices N T) list_vft_indices 2 N.indices index_part (wide_indices (vertices c) (all_corners c)) (length_indices (vertices c) (all_corners c))) s₂ in
      let s₄ = stand_behind P (end_indices N T) eb (qb ++ (tb ++ (rb ++ lb))) (list_sizes 8 N.indices) (list_size (end_indices N T) list_vft_edges 8 N.indices edge_part (wide_edges (areas c) (all_corners c)) (length_edges (areas c) (all_corners c))) s₃ in
      let s₅ = stand_behind P (end_edges N T) qb (tb ++ (rb ++ lb)) (list_sizes 48 N.polygons) (list_size (end_edges N T) list_vft_polys 48 N.polygons polygon_part (wide_polygons c.head.area 0 0 0 c.polys) (length_polygons c.head.area 0 0 0 c.polys)) s₄ in
      let s₆ = stand_behind P (end_polygons N T) tb (rb ++ lb) (Sectors.sizes T) (tree_lengths (bb_min c) (bb_size c) (end_polygons N T) 0 T) s₅ in
      let s₇ = stand_behind P (end_sectors N T) rb lb (size_of (28 * N.portals)) (block_size (28 * N.portals) (cat portal_part) (length_portals (bb_min c) (bb_size c) c.portals)) s₆ in
      record {
        header_block = first_held P 0 368 (header c) long all.0;
        vertex_blocks = stand_first P (end_header N T) vb (ib ++ (eb ++ (qb ++ (tb ++ (rb ++ lb))))) s₁;
        index_blocks = stand_first P (end_vertices N T) ib (eb ++ (qb ++ (tb ++ (rb ++ lb)))) s₂;
        edge_blocks = stand_first P (end_indices N T) eb (qb ++ (tb ++ (rb ++ lb))) s₃;
        polygon_blocks = stand_first P (end_edges N T) qb (tb ++ (rb ++ lb)) s₄;
        sector_blocks = stand_first P (end_polygons N T) tb (rb ++ lb) s₅;
        portal_blocks = stand_first P (end_sectors N T) rb lb s₆;
        link_blocks = s₇;
      }

  module _ (tail graphics : List ℕ) (range : InRange c) (acc : Accepted c) where
    abbrev S : List ℕ
    S = pages c ++ tail

    abbrev A : Places
    A = places_of N T

    few : length P < 2 ^ 28
    few = pages_short c acc

    form : Formed c
    form = formed c range

    box : FiniteBox c.head
    box = box_finite c.head acc.finite_box_is

    st : Standing
    st = standing

    abbrev H : List ℕ
    H = header_bytes c.head A N (areas c)

    -- ---- addresses and counts in the header

    vertices_va : le_at 8 H 0x70 ≡ address (place_of (end_header N T) 48)
    unfolding places_of
    vertices_va = back.vertices_back c.head A N (areas c) (omega (arith, few, list_place P (end_header N T) list_vft_vertices 6 vertex_part st.vertex_blocks))

    indices_va : le_at 8 H 0x80 ≡ address (place_of (end_vertices N T) 48)
    unfolding places_of
    indices_va = back.indices_back c.head A N (areas c) (omega (arith, few, list_place P (end_vertices N T) list_vft_indices 2 index_part st.index_blocks))

    edges_va : le_at 8 H 0x88 ≡ address (place_of (end_indices N T) 48)
    unfolding places_of
    edges_va = back.edges_back c.head A N (areas c) (omega (arith, few, list_place P (end_indices N T) list_vft_edges 8 edge_part st.edge_blocks))

    polygons_va : le_at 8 H 0x118 ≡ address (place_of (end_edges N T) 48)
    unfolding places_of
    polygons_va = back.polygons_back c.head A N (areas c) (omega (arith, few, list_place P (end_edges N T) list_vft_polys 48 polygon_part st.polygon_blocks))

    root : Root P (end_polygons N T) (box_at T)
    root = tree_root P (bb_min c) (bb_size c) (end_polygons N T) 0 T st.sector_blocks

    root_va : le_at 8 H 0x120 ≡ address (place_of (end_polygons N T) 96)
    unfolding places_of
    root_va = back.root_back c.head A N (areas c) (omega (arith, few, held_end root.held, root.long))

    portals_va : le_at 8 H 0x128 ≡ address_of (end_sectors N T) (28 * length c.portals)
    unfolding places_of counts
    portals_va =
        back.portals_back c.head A N (areas c)
        (address_small P (end_sectors N T) (28 * length c.portals) (cat portal_part) few (length_portals (bb_min c) (bb_size c) c.portals) st.portal_blocks)

    links_va : le_at 8 H 0x130 ≡ address_of (end_portals N T) (2 * length (links c))
    unfolding places_of counts
    links_va = back.links_back c.head A N (areas c) (address_small P (end_portals N T) (2 * length (links c)) (les 2 (links c)) few (length_les 2 (links c)) st.link_blocks)

    portal_count : le_at 4 H 0x14C ≡ length c.portals
    unfolding counts
    portal_count = back.portal_count_back c.head A N (areas c) (omega (arith, acc.few_portals))

    link_count : le_at 4 H 0x150 ≡ length (links c)
    unfolding counts
    link_count = back.link_count_back c.head A N (areas c) (omega (arith, acc.few_links))

    links_are : links_at S graphics (le_at 8 H 0x130) (le_at 4 H 0x150) ≡ links c
    unfolding links
    links_are = rw (links_va, link_count) (link_table P tail graphics few (end_portals N T) (links c) (link_shorts c.polys form.polys) st.link_blocks)

    -- ---- tables

    small_areas : All (λ x. x < 2 ^ 32) (areas c)
    unfolding areas
    small_areas = area_words (bb_min c) (bb_size c) c.head.area c.polys form.head.area form.polys

    known : All (Known (vertices c) (areas c)) (all_corners c)
    unfolding vertices areas
    known = all_known (vertices c) (areas c) (all_corners c) (all_in [] (triples (all_corners c))) (all_in (seeded c.head.area) (named (all_corners c)))

    area_is : (i : ℕ) → i < length (areas c) → area_of H i ≡ get_or (areas c) i 0
    unfolding counts
    area_is = back.areas_back c.head A N (areas c) refl acc.few_areas small_areas

    portal_array : Array S graphics 28 (address_of (end_sectors N T) (28 * length c.portals)) (length c.portals) portal_part
    portal_array =
        subst (λ (j : ℕ). Array S graphics 28 (address_of (end_sectors N T) (28 * j)) j portal_part) (Sizes.portal_count (bb_min c) (bb_size c) c.portals)
        (array_back P tail graphics few 28 (end_sectors N T) portal_part (omega arith) (wide_portals (bb_min c) (bb_size c) c.portals) st.portal_blocks)

    link_run : Holds (links c) 0 (links_of c.polys)
    unfolding links
    link_run = all_held (links c)

    -- ---- the cell's record

    head_back : c.head ≡ head_of H root.bytes
    unfolding head_of vec_of
    head_back =
        let h = c.head in
        let w = form.head in
        rw (
          back.content_back h A N (areas c) w.content,
          back.area_back h A N (areas c) w.area,
          back.version_back h A N (areas c) w.version,
          back.vft_back h A N (areas c) w.vft,
          back.size_x_back h A N (areas c) w.bb_size.x,
          back.size_y_back h A N (areas c) w.bb_size.y,
          back.size_z_back h A N (areas c) w.bb_size.z,
          root_min c P (end_polygons N T) root box w.bb_min,
          root_max c P (end_polygons N T) root box w.bb_max,
        )

    -- ---- all of it

    pub makes : Makes S graphics (sector_count T) (reread c)
    unfolding reread header
    makes = record {
      header = H;
      root = root.bytes;
      vertices = vertex_part;
      indices = index_part;
      edges = edge_part;
      polygons = polygon_part;
      portals = portal_part;
      points = point_items (bb_min c) (bb_size c) (preorder T);
      header_good = good P tail graphics few 368 (header_length c.head A N (areas c)) (omega arith) st.header_block;
      root_good = rw root_va (good P tail graphics few 96 root.long (omega arith) root.held);
      head_is = head_back;
      finite_box_is = acc.finite_box_is;
      tree = rw root_va (tree_back P tail graphics few (bb_min c) (bb_size c) (end_polygons N T) 0 T acc.leaves st.sector_blocks);
      few_sectors = omega (arith, sectors_count c);
      vertex_list = rw vertices_va (items_back P tail graphics few 6 (omega arith) (omega arith) (end_header N T) list_vft_vertices vertex_part (wide_vertices (vertices c)) (omega (arith, length_vertices (vertices c), acc.few_vertices)) st.vertex_blocks);
      index_list = rw indices_va (items_back P tail graphics few 2 (omega arith) (omega arith) (end_vertices N T) list_vft_indices index_part (wide_indices (vertices c) (all_corners c)) (omega (arith, length_indices (vertices c) (all_corners c), few_corners c acc)) st.index_blocks);
      edge_list = rw edges_va (items_back P tail graphics few 8 (omega arith) (omega arith) (end_indices N T) list_vft_edges edge_part (wide_edges (areas c) (all_corners c)) (omega (arith, length_edges (areas c) (all_corners c), few_corners c acc)) st.edge_blocks);
      polygon_list = rw polygons_va (items_back P tail graphics few 48 (omega arith) (omega arith) (end_edges N T) list_vft_polys polygon_part (wide_polygons c.head.area 0 0 0 c.polys) (omega (arith, acc.few_polygons, length_polygons c.head.area 0 0 0 c.polys)) st.polygon_blocks);
      portal_list = rw (portals_va, portal_count) portal_array;
      polygons_are = rw links_are
          (polygons_back c.head c.head.area (vertices c) (areas c) (area_of H) acc.few_vertices acc.few_areas area_is 0 0 0 c.polys index_part edge_part (links c)
          form.polys acc.checked (omega (arith, acc.few_polygons)) (omega arith) known (all_held index_part) (all_held edge_part) link_run);
      portals_are = sym (portals_back c.head c.portals form.portals);
      points_are = sym (points_back c.head (preorder T) (sectors_points c PointFits form.points));
    }

    -- and derive its strip
    pub derives : Derives S graphics (encode (reread c))
    derives = record { sectors = sector_count T; cell = reread c; makes = makes; strip = refl }
