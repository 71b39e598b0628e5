-- Two cells whose pages, and whose strips read again, are those that the Rust's serialize_ynv and parse_ynv give. Bytes stand as 32-bit words.
use Prim.Native.Nat.{ℕ}
use mathlib.Core.Path.{◌≡◌, refl}
use mathlib.Core.List.{List, [], ◌∷◌}
use lib.ListN.{length, replicate}
use lib.Ieee.{add, sub, mul, div, lt, le, eq, of_int, of_bits, to_bits, of_fields, round, units, odd, size, climb, span, sum, neg, is_nan}
use Rattle.fields.specs.Bytes.{les, le_bytes, cat}
use Rattle.fields.specs.Rows.{row_bytes, pack}
use Rattle.math.specs.MinMax.{lesser, greater}
use Rattle.quantise.specs.Short.{short, fraction, clamped, nearest_number, coordinate}
use Rattle.quarters.specs.Quarter.{side}
use Rattle.quarters.specs.Bounds.{fold}
use Rattle.strip.specs.Cell.{Vec3, NavEdgeEnd, NavEdge, NavPoly, NavPortal, Cell, encode, each, vec_words, head_words, half_words, edge_words, polygon_head_as, polygon_words_as, portal_words, point_words}
use Rattle.strip.specs.Box.{finite_box}
use Rattle.strip.proofs.Plain.{encode_plain}
use Rattle.distinct.specs.Distinct.{index_of, with_new, distinct_from}
use Rattle.areas.specs.EdgeHalf.{half_word}
use Rattle.write_blocks.specs.Layout.{place_of}
use Rattle.write_blocks.specs.Lists.{table_bytes, front_blocks, list_blocks}
use Rattle.write_pages.specs.Items.{no_edge, gather, triple_in, corners_of, named, vertex_items, index_items, edge_items, box_of, polygon_items}
use Rattle.write_pages.specs.Sectors as Sectors
use Rattle.write_pages.specs.Sectors.{middle, leaves, between, inside, leaf_of, points_of, axis_meets, meets, leaf_ids, grown, tree_of, point_count, byte_count, leaf_counts, point_items, leaf_blocks, tree_blocks}
use Rattle.write_pages.specs.Preorder.{preorder}
use Rattle.write_pages.specs.Pages.{portal_items, padded, header_bytes, vertices, areas, links, sectors, counts, sizes_of, end_header, end_vertices, end_indices, end_edges, end_polygons, end_sectors, end_portals, places_of, sizes, header, blocks, pages}
use Rattle.write_pages.specs.Checks.{Verdict, fine, refused, first_fault, at, corner_fault, corners_fault, polygon_fault, polygons_verdict, leaves_verdict, cell_verdict}
use Rattle.write_pages.specs.Reread.{half_again, edge_again, position_again, polygon_again, portal_again, point_again, reread}

abbrev pub vec : ℕ → ℕ → ℕ → Vec3
vec x y z = record { x = x; y = y; z = z }

abbrev pub half : (area poly unk2 unk3 : ℕ) → NavEdgeEnd
half area poly unk2 unk3 = record { area = area; poly = poly; unk3 = unk3; unk2 = unk2 }

abbrev pub edge : NavEdgeEnd → NavEdgeEnd → NavEdge
edge a b = record { a = a; b = b }

abbrev pub both : NavEdgeEnd → NavEdge
both a = edge a a

-- what a cell is written as, how it is read again, and what is refused: an equation under `unfolding computed` computes
unfoldable pub computed : (words work out : ℕ) → Cell → List ℕ × Cell × Verdict
unfolding les le_bytes cat row_bytes pack lesser greater short fraction clamped nearest_number coordinate side fold index_of with_new distinct_from half_word place_of table_bytes front_blocks list_blocks gather triple_in corners_of named vertex_items index_items edge_items box_of polygon_items middle leaves between inside leaf_of points_of axis_meets meets leaf_ids grown tree_of point_count byte_count leaf_counts preorder point_items leaf_blocks tree_blocks Sectors.sizes portal_items padded header_bytes vertices areas links sectors counts sizes_of sizes end_header end_vertices end_indices end_edges end_polygons end_sectors end_portals places_of header blocks pages add sub mul div lt le eq of_int of_bits to_bits of_fields round units odd size climb span sum neg is_nan half_again edge_again position_again polygon_again portal_again point_again reread each vec_words head_words half_words edge_words polygon_head_as polygon_words_as portal_words point_words first_fault at corner_fault corners_fault polygon_fault polygons_verdict leaves_verdict finite_box cell_verdict
computed words work out c = (pages c, reread c, cell_verdict words work out c)

-- A grid cell with a triangle, a portal and three points. A vertex has a NaN, the last edge is missing, a point lies on four leaves' borders and
-- another one outside.
unfoldable pub grid : Cell
grid = record {
  head = record {
    content = 1;
    area = 4040;
    version = 0x85CB_3561;
    vft = 0x4061_E7E8;
    bb_min = vec 0 0 0xC120_0000;
    bb_max = vec 0x4316_0000 0x4316_0000 0x4220_0000;
    bb_size = vec 0x4316_0000 0x4316_0000 0x4248_0000;
  };
  polys =
      record {
        flags0 = 0x1234;
        flags1 = 0x89AB_CDEF;
        flags2 = 0x0102_0304;
        links = 0 ∷ 65535 ∷ [];
        vertices = vec 0xBEC0_0000 0x4120_0000 0x3F80_0000 ∷ vec 0x4221_0000 0x4120_0000 0x4020_0000 ∷ vec 0x4120_0000 0x42A0_0000 0x7FC0_0000 ∷ [];
        edges = edge (half 4041 7 1 3) (half 77 20000 5 4000) ∷ edge (half 16383 16383 0 0) (half 4040 0 0 0) ∷ [];
      }
      ∷ [];
  portals =
      record {
        kind = 1;
        angle = 200;
        flags_unk = 0x4321;
        from = vec 0x3F80_0000 0x4000_0000 0x4040_0000;
        to = vec 0x4315_0000 0x4296_0000 0;
        poly_from = 0;
        poly_to = 5;
        area_from = 4040;
        area_to = 20000;
        area_unk = 31;
      }
      ∷ [];
  points =
      record { angle = 9; kind = 3; position = vec 0x4296_0000 0x4296_0000 0x40A0_0000 }
      ∷ record { angle = 1; kind = 1; position = vec 0x4348_0000 0x3F80_0000 0x40A0_0000 }
      ∷ record { angle = 17; kind = 2; position = vec 0x3F80_0000 0x3F80_0000 0x40A0_0000 }
      ∷ [];
}

unfoldable pub grid_pages : List ℕ
grid_pages =
    0x4061E7E8 ∷ 1 ∷ 0 ∷ 0 ∷ 1 ∷ 0x10011 ∷ 0 ∷ 0 ∷ 0x3F800000 ∷ 0 ∷ 0 ∷ 0x7FC00000 ∷ 0 ∷ 0x3F800000 ∷ 0 ∷ 0x7FC00000
    ∷ 0 ∷ 0 ∷ 0x3F800000 ∷ 0x7FC00000 ∷ 0 ∷ 0 ∷ 0 ∷ 0x7FC00000 ∷ 0x43160000 ∷ 0x43160000 ∷ 0x42480000 ∷ 0x7F800001 ∷ 0x50000170 ∷ 0 ∷ 0 ∷ 0
    ∷ 0x500001E0 ∷ 0 ∷ 0x50000240 ∷ 0 ∷ 3 ∷ 7 ∷ 0xFC8 ∷ 0x3FFF ∷ 0xF64 ∷ 0xFC7 ∷ 0xFC9 ∷ 0x102C ∷ 0x4D ∷ 0 ∷ 0 ∷ 0
    ∷ 0 ∷ 0 ∷ 0 ∷ 0 ∷ 0 ∷ 0 ∷ 0 ∷ 0 ∷ 0 ∷ 0 ∷ 0 ∷ 0 ∷ 0 ∷ 0 ∷ 0 ∷ 0
    ∷ 0 ∷ 0 ∷ 0 ∷ 0 ∷ 0 ∷ 0 ∷ 0x500002B0 ∷ 0 ∷ 0x50000330 ∷ 0 ∷ 0x50000D90 ∷ 0 ∷ 0x50000DB0 ∷ 0 ∷ 3 ∷ 1
    ∷ 0xFC8 ∷ 0xA78 ∷ 2 ∷ 1 ∷ 2 ∷ 0 ∷ 0 ∷ 0 ∷ 0x85CB3561 ∷ 0 ∷ 0 ∷ 0 ∷ 0x4061E8F8 ∷ 1 ∷ 3 ∷ 0
    ∷ 0x500001A0 ∷ 0 ∷ 0x500001D0 ∷ 0 ∷ 1 ∷ 0 ∷ 0 ∷ 0 ∷ 0x500001B0 ∷ 0 ∷ 3 ∷ 0 ∷ 0x11110000 ∷ 0x44B13852 ∷ 0x40001111 ∷ 0x88881111
    ∷ 0 ∷ 0 ∷ 0 ∷ 0 ∷ 0 ∷ 0 ∷ 0 ∷ 0 ∷ 0x4061E8D8 ∷ 1 ∷ 3 ∷ 0 ∷ 0x50000210 ∷ 0 ∷ 0x50000230 ∷ 0
    ∷ 1 ∷ 0 ∷ 0 ∷ 0 ∷ 0x50000220 ∷ 0 ∷ 3 ∷ 0 ∷ 0x10000 ∷ 2 ∷ 0 ∷ 0 ∷ 0 ∷ 0 ∷ 0 ∷ 0
    ∷ 0x4061E8E8 ∷ 1 ∷ 3 ∷ 0 ∷ 0x50000270 ∷ 0 ∷ 0x500002A0 ∷ 0 ∷ 1 ∷ 0 ∷ 0 ∷ 0 ∷ 0x50000280 ∷ 0 ∷ 3 ∷ 0
    ∷ 0x6800E4 ∷ 0xF409C406 ∷ 0x7FFE1 ∷ 0 ∷ 0x7FFE1 ∷ 0x7FFE1 ∷ 0 ∷ 0 ∷ 0 ∷ 0 ∷ 0 ∷ 0 ∷ 0x4061E8C8 ∷ 1 ∷ 1 ∷ 0
    ∷ 0x500002E0 ∷ 0 ∷ 0x50000320 ∷ 0 ∷ 1 ∷ 0 ∷ 0 ∷ 0 ∷ 0x500002F0 ∷ 0 ∷ 1 ∷ 0 ∷ 0x601234 ∷ 0xFC80000 ∷ 0 ∷ 0
    ∷ 0 ∷ 0 ∷ 0xA1FFFE ∷ 0x1400028 ∷ 0xA0004 ∷ 0x89ABCDEF ∷ 0x1020304 ∷ 0x2000 ∷ 0 ∷ 0 ∷ 0 ∷ 0 ∷ 0 ∷ 0 ∷ 0xC1200000 ∷ 0x7FC00000
    ∷ 0x43160000 ∷ 0x43160000 ∷ 0x42200000 ∷ 0x7FC00000 ∷ 0x2580000 ∷ 0x2580000 ∷ 0xA0FFD8 ∷ 0 ∷ 0 ∷ 0x50000390 ∷ 0 ∷ 0x50000600 ∷ 0 ∷ 0x50000860 ∷ 0 ∷ 0x50000B10
    ∷ 0 ∷ 0 ∷ 0 ∷ 0 ∷ 0x42960000 ∷ 0x42960000 ∷ 0x41700000 ∷ 0x7FC00000 ∷ 0x43160000 ∷ 0x43160000 ∷ 0x42200000 ∷ 0x7FC00000 ∷ 0x258012C ∷ 0x258012C ∷ 0xA0003C ∷ 0
    ∷ 0 ∷ 0x500003F0 ∷ 0 ∷ 0x50000470 ∷ 0 ∷ 0x500004F0 ∷ 0 ∷ 0x50000580 ∷ 0 ∷ 0 ∷ 0 ∷ 0 ∷ 0x42E10000 ∷ 0x42E10000 ∷ 0x41DC0000 ∷ 0x7FC00000
    ∷ 0x43160000 ∷ 0x43160000 ∷ 0x42200000 ∷ 0x7FC00000 ∷ 0x25801C2 ∷ 0x25801C2 ∷ 0xA0006E ∷ 0x50000450 ∷ 0 ∷ 0 ∷ 0 ∷ 0 ∷ 0 ∷ 0 ∷ 0 ∷ 0
    ∷ 0 ∷ 0 ∷ 0 ∷ 0 ∷ 0 ∷ 0 ∷ 0 ∷ 0 ∷ 0 ∷ 0 ∷ 0 ∷ 0 ∷ 0x42E10000 ∷ 0x42960000 ∷ 0 ∷ 0x7FC00000
    ∷ 0x43160000 ∷ 0x42E10000 ∷ 0 ∷ 0x7FC00000 ∷ 0x25801C2 ∷ 0x1C2012C ∷ 0 ∷ 0x500004D0 ∷ 0 ∷ 0 ∷ 0 ∷ 0 ∷ 0 ∷ 0 ∷ 0 ∷ 0
    ∷ 0 ∷ 0 ∷ 0 ∷ 0 ∷ 0 ∷ 0 ∷ 0 ∷ 0 ∷ 0 ∷ 0 ∷ 0 ∷ 0 ∷ 0x42960000 ∷ 0x42960000 ∷ 0x41700000 ∷ 0x7FC00000
    ∷ 0x42E10000 ∷ 0x42E10000 ∷ 0x41DC0000 ∷ 0x7FC00000 ∷ 0x1C2012C ∷ 0x1C2012C ∷ 0x6E003C ∷ 0x50000560 ∷ 0 ∷ 0 ∷ 0 ∷ 0 ∷ 0 ∷ 0 ∷ 0 ∷ 0
    ∷ 0 ∷ 0 ∷ 0 ∷ 0 ∷ 0x80008000 ∷ 0x3094CCD ∷ 0 ∷ 0 ∷ 0 ∷ 0 ∷ 0 ∷ 0 ∷ 0x50000550 ∷ 0 ∷ 0x10000 ∷ 0
    ∷ 0x42960000 ∷ 0x42E10000 ∷ 0 ∷ 0x7FC00000 ∷ 0x42E10000 ∷ 0x43160000 ∷ 0 ∷ 0x7FC00000 ∷ 0x1C2012C ∷ 0x25801C2 ∷ 0 ∷ 0x500005E0 ∷ 0 ∷ 0 ∷ 0 ∷ 0
    ∷ 0 ∷ 0 ∷ 0 ∷ 0 ∷ 0 ∷ 0 ∷ 0 ∷ 0 ∷ 1 ∷ 0 ∷ 0 ∷ 0 ∷ 0 ∷ 0 ∷ 0 ∷ 0
    ∷ 0x42960000 ∷ 0 ∷ 0 ∷ 0x7FC00000 ∷ 0x43160000 ∷ 0x42960000 ∷ 0 ∷ 0x7FC00000 ∷ 0x258012C ∷ 0x12C0000 ∷ 0 ∷ 0 ∷ 0 ∷ 0x50000660 ∷ 0 ∷ 0x500006E0
    ∷ 0 ∷ 0x50000760 ∷ 0 ∷ 0x500007E0 ∷ 0 ∷ 0 ∷ 0 ∷ 0 ∷ 0x42E10000 ∷ 0x42160000 ∷ 0 ∷ 0x7FC00000 ∷ 0x43160000 ∷ 0x42960000 ∷ 0 ∷ 0x7FC00000
    ∷ 0x25801C2 ∷ 0x12C0096 ∷ 0 ∷ 0x500006C0 ∷ 0 ∷ 0 ∷ 0 ∷ 0 ∷ 0 ∷ 0 ∷ 0 ∷ 0 ∷ 0 ∷ 0 ∷ 0 ∷ 0
    ∷ 1 ∷ 0 ∷ 0 ∷ 0 ∷ 0 ∷ 0 ∷ 0 ∷ 0 ∷ 0x42E10000 ∷ 0 ∷ 0 ∷ 0x7FC00000 ∷ 0x43160000 ∷ 0x42160000 ∷ 0 ∷ 0x7FC00000
    ∷ 0x25801C2 ∷ 0x960000 ∷ 0 ∷ 0x50000740 ∷ 0 ∷ 0 ∷ 0 ∷ 0 ∷ 0 ∷ 0 ∷ 0 ∷ 0 ∷ 0 ∷ 0 ∷ 0 ∷ 0
    ∷ 1 ∷ 0 ∷ 0 ∷ 0 ∷ 0 ∷ 0 ∷ 0 ∷ 0 ∷ 0x42960000 ∷ 0 ∷ 0 ∷ 0x7FC00000 ∷ 0x42E10000 ∷ 0x42160000 ∷ 0 ∷ 0x7FC00000
    ∷ 0x1C2012C ∷ 0x960000 ∷ 0 ∷ 0x500007C0 ∷ 0 ∷ 0 ∷ 0 ∷ 0 ∷ 0 ∷ 0 ∷ 0 ∷ 0 ∷ 0 ∷ 0 ∷ 0 ∷ 0
    ∷ 1 ∷ 0 ∷ 0 ∷ 0 ∷ 0 ∷ 0 ∷ 0 ∷ 0 ∷ 0x42960000 ∷ 0x42160000 ∷ 0 ∷ 0x7FC00000 ∷ 0x42E10000 ∷ 0x42960000 ∷ 0 ∷ 0x7FC00000
    ∷ 0x1C2012C ∷ 0x12C0096 ∷ 0 ∷ 0x50000840 ∷ 0 ∷ 0 ∷ 0 ∷ 0 ∷ 0 ∷ 0 ∷ 0 ∷ 0 ∷ 0 ∷ 0 ∷ 0 ∷ 0
    ∷ 1 ∷ 0 ∷ 0 ∷ 0 ∷ 0 ∷ 0 ∷ 0 ∷ 0 ∷ 0 ∷ 0 ∷ 0xC1200000 ∷ 0x7FC00000 ∷ 0x42960000 ∷ 0x42960000 ∷ 0x41700000 ∷ 0x7FC00000
    ∷ 0x12C0000 ∷ 0x12C0000 ∷ 0x3CFFD8 ∷ 0 ∷ 0 ∷ 0x500008C0 ∷ 0 ∷ 0x50000950 ∷ 0 ∷ 0x500009E0 ∷ 0 ∷ 0x50000A80 ∷ 0 ∷ 0 ∷ 0 ∷ 0
    ∷ 0x42160000 ∷ 0x42160000 ∷ 0x40200000 ∷ 0x7FC00000 ∷ 0x42960000 ∷ 0x42960000 ∷ 0x41700000 ∷ 0x7FC00000 ∷ 0x12C0096 ∷ 0x12C0096 ∷ 0x3C000A ∷ 0x50000930 ∷ 0 ∷ 0 ∷ 0 ∷ 0
    ∷ 0 ∷ 0 ∷ 0 ∷ 0 ∷ 0 ∷ 0 ∷ 0 ∷ 0 ∷ 0 ∷ 0 ∷ 0 ∷ 0 ∷ 1 ∷ 0 ∷ 0x50000920 ∷ 0
    ∷ 0 ∷ 0 ∷ 1 ∷ 0 ∷ 0x42160000 ∷ 0 ∷ 0 ∷ 0x7FC00000 ∷ 0x42960000 ∷ 0x42160000 ∷ 0 ∷ 0x7FC00000 ∷ 0x12C0096 ∷ 0x960000 ∷ 0 ∷ 0x500009C0
    ∷ 0 ∷ 0 ∷ 0 ∷ 0 ∷ 0 ∷ 0 ∷ 0 ∷ 0 ∷ 0 ∷ 0 ∷ 0 ∷ 0 ∷ 0 ∷ 0 ∷ 0 ∷ 0
    ∷ 1 ∷ 0 ∷ 0x500009B0 ∷ 0 ∷ 0 ∷ 0 ∷ 1 ∷ 0 ∷ 0 ∷ 0 ∷ 0xC1200000 ∷ 0x7FC00000 ∷ 0x42160000 ∷ 0x42160000 ∷ 0x40200000 ∷ 0x7FC00000
    ∷ 0x960000 ∷ 0x960000 ∷ 0xAFFD8 ∷ 0x50000A60 ∷ 0 ∷ 0 ∷ 0 ∷ 0 ∷ 0 ∷ 0 ∷ 0 ∷ 0 ∷ 0 ∷ 0 ∷ 0 ∷ 0
    ∷ 0 ∷ 0 ∷ 0 ∷ 0 ∷ 0x1B501B5 ∷ 0x2114CCD ∷ 0 ∷ 0 ∷ 1 ∷ 0 ∷ 0x50000A40 ∷ 0 ∷ 0x50000A50 ∷ 0 ∷ 0x10001 ∷ 0
    ∷ 0 ∷ 0x42160000 ∷ 0 ∷ 0x7FC00000 ∷ 0x42160000 ∷ 0x42960000 ∷ 0 ∷ 0x7FC00000 ∷ 0x960000 ∷ 0x12C0096 ∷ 0 ∷ 0x50000AF0 ∷ 0 ∷ 0 ∷ 0 ∷ 0
    ∷ 0 ∷ 0 ∷ 0 ∷ 0 ∷ 0 ∷ 0 ∷ 0 ∷ 0 ∷ 0 ∷ 0 ∷ 0 ∷ 0 ∷ 2 ∷ 0 ∷ 0x50000AE0 ∷ 0
    ∷ 0 ∷ 0 ∷ 1 ∷ 0 ∷ 0 ∷ 0x42960000 ∷ 0 ∷ 0x7FC00000 ∷ 0x42960000 ∷ 0x43160000 ∷ 0 ∷ 0x7FC00000 ∷ 0x12C0000 ∷ 0x258012C ∷ 0 ∷ 0
    ∷ 0 ∷ 0x50000B70 ∷ 0 ∷ 0x50000BF0 ∷ 0 ∷ 0x50000C80 ∷ 0 ∷ 0x50000D10 ∷ 0 ∷ 0 ∷ 0 ∷ 0 ∷ 0x42160000 ∷ 0x42E10000 ∷ 0 ∷ 0x7FC00000
    ∷ 0x42960000 ∷ 0x43160000 ∷ 0 ∷ 0x7FC00000 ∷ 0x12C0096 ∷ 0x25801C2 ∷ 0 ∷ 0x50000BD0 ∷ 0 ∷ 0 ∷ 0 ∷ 0 ∷ 0 ∷ 0 ∷ 0 ∷ 0
    ∷ 0 ∷ 0 ∷ 0 ∷ 0 ∷ 2 ∷ 0 ∷ 0 ∷ 0 ∷ 0 ∷ 0 ∷ 0 ∷ 0 ∷ 0x42160000 ∷ 0x42960000 ∷ 0 ∷ 0x7FC00000
    ∷ 0x42960000 ∷ 0x42E10000 ∷ 0 ∷ 0x7FC00000 ∷ 0x12C0096 ∷ 0x1C2012C ∷ 0 ∷ 0x50000C60 ∷ 0 ∷ 0 ∷ 0 ∷ 0 ∷ 0 ∷ 0 ∷ 0 ∷ 0
    ∷ 0 ∷ 0 ∷ 0 ∷ 0 ∷ 0 ∷ 0 ∷ 0 ∷ 0 ∷ 2 ∷ 0 ∷ 0x50000C50 ∷ 0 ∷ 0 ∷ 0 ∷ 1 ∷ 0
    ∷ 0 ∷ 0x42960000 ∷ 0 ∷ 0x7FC00000 ∷ 0x42160000 ∷ 0x42E10000 ∷ 0 ∷ 0x7FC00000 ∷ 0x960000 ∷ 0x1C2012C ∷ 0 ∷ 0x50000CF0 ∷ 0 ∷ 0 ∷ 0 ∷ 0
    ∷ 0 ∷ 0 ∷ 0 ∷ 0 ∷ 0 ∷ 0 ∷ 0 ∷ 0 ∷ 0 ∷ 0 ∷ 0 ∷ 0 ∷ 2 ∷ 0 ∷ 0x50000CE0 ∷ 0
    ∷ 0 ∷ 0 ∷ 1 ∷ 0 ∷ 0 ∷ 0x42E10000 ∷ 0 ∷ 0x7FC00000 ∷ 0x42160000 ∷ 0x43160000 ∷ 0 ∷ 0x7FC00000 ∷ 0x960000 ∷ 0x25801C2 ∷ 0 ∷ 0x50000D70
    ∷ 0 ∷ 0 ∷ 0 ∷ 0 ∷ 0 ∷ 0 ∷ 0 ∷ 0 ∷ 0 ∷ 0 ∷ 0 ∷ 0 ∷ 2 ∷ 0 ∷ 0 ∷ 0
    ∷ 0 ∷ 0 ∷ 0 ∷ 0 ∷ 0x4321C801 ∷ 0x36A01B5 ∷ 0xFE4A428F ∷ 0x33338000 ∷ 0 ∷ 0x50005 ∷ 0xF3880FC8 ∷ 0 ∷ 0xFFFF0000 ∷ []

unfoldable pub grid_again : List ℕ
grid_again =
    0x10000000 ∷ 1 ∷ 0xFC8 ∷ 0x85CB3561 ∷ 0x4061E7E8 ∷ 0 ∷ 0 ∷ 0xC1200000 ∷ 0x43160000 ∷ 0x43160000 ∷ 0x42200000 ∷ 0x43160000 ∷ 0x43160000 ∷ 0x42480000 ∷ 0x22003003 ∷ 0x1234
    ∷ 0x89ABCDEF ∷ 0x1020304 ∷ 0 ∷ 0xFFFF ∷ 0 ∷ 0x41200001 ∷ 0x3F800780 ∷ 0x4220FF79 ∷ 0x41200001 ∷ 0x40200320 ∷ 0x41200001 ∷ 0x42A00001 ∷ 0xC1200000 ∷ 0xFC9 ∷ 7 ∷ 0x10003
    ∷ 0x4D ∷ 0xE20 ∷ 0x107A0 ∷ 0x3FFF ∷ 0x3FFF ∷ 0 ∷ 0xFC8 ∷ 0 ∷ 0 ∷ 0x3FFF ∷ 0x3FFF ∷ 0 ∷ 0x3FFF ∷ 0x3FFF ∷ 0 ∷ 0x3000C801
    ∷ 0x4321 ∷ 0x3F800780 ∷ 0x40000780 ∷ 0x403FFEC0 ∷ 0x4314FFF1 ∷ 0x42960096 ∷ 0 ∷ 0x50000 ∷ 0xE200FC8 ∷ 0xF ∷ 0x40000211 ∷ 0x3F800780 ∷ 0x3F800780 ∷ 0x40A00322 ∷ 0x40000309 ∷ 0x42960096
    ∷ 0x42960096 ∷ 0x40A00322 ∷ 0x50000000 ∷ []

pub grid_pages_lem : pages grid ≡ les 4 grid_pages
unfolding computed grid grid_pages
grid_pages_lem = refl

pub grid_again_lem : encode (reread grid) ≡ grid_again
unfolding computed grid grid_again
grid_again_lem = encode_plain (reread grid)

-- its 65 words ask for 260 words of work, and its pages are 3,508 bytes long
pub grid_fine : cell_verdict 65 260 3508 grid ≡ fine
unfolding computed grid
grid_fine = refl

pub grid_work : cell_verdict 65 259 0 grid ≡ refused 1 0
unfolding computed grid
grid_work = refl

pub grid_short : cell_verdict 65 260 3507 grid ≡ refused 2 0
unfolding computed grid
grid_short = refl

-- The order of the checks, where several fail. `plain` is a vehicle cell, whose box ends at a given height.
abbrev pub plain : (height : ℕ) → List NavPoly → List NavPortal → Cell
plain height polys portals = record {
  head = record { content = 4; area = 10000; version = 0; vft = 0; bb_min = vec 0 0 0; bb_max = vec 0 0 height; bb_size = vec 0 0 0 };
  polys = polys;
  portals = portals;
  points = [];
}

abbrev pub flat : (vertices links : ℕ) → NavPoly
flat vertices links =
    record { flags0 = 0; flags1 = 0; flags2 = 0; links = replicate links 0; vertices = replicate vertices (vec 0 0 0); edges = [] }

abbrev pub portal : NavPortal
portal = record {
  kind = 0;
  angle = 0;
  flags_unk = 0;
  from = vec 0 0 0;
  to = vec 0 0 0;
  poly_from = 0;
  poly_to = 0;
  area_from = 0;
  area_to = 0;
  area_unk = 0;
}

pub work_first : cell_verdict 15 59 0 (plain 0x7F80_0000 [] []) ≡ refused 1 0
unfolding computed
work_first = refl

pub then_box : cell_verdict 15 60 0 (plain 0x7F80_0000 (flat 2 0 ∷ []) []) ≡ refused 10 0
unfolding computed
then_box = refl

-- a polygon's vertices before its links, and these before the next polygon
pub then_polygon : cell_verdict 15 60 0 (plain 0 (flat 3 0 ∷ flat 2 8 ∷ []) []) ≡ refused 12 1
unfolding computed
then_polygon = refl

pub polygon_by_polygon : cell_verdict 15 60 0 (plain 0 (flat 3 8 ∷ flat 2 0 ∷ []) []) ≡ refused 16 0
unfolding computed
polygon_by_polygon = refl

pub then_portals : cell_verdict 15 60 0 (plain 0 [] (replicate 586 portal)) ≡ refused 19 0
unfolding computed
then_portals = refl

pub last_room : cell_verdict 15 60 0 (plain 0 [] (replicate 585 portal)) ≡ refused 2 0
unfolding computed
last_room = refl

-- A vehicle with two polygons that share two vertices. The first has a surplus edge, whose area stands in no table; the second lacks two edges.
unfoldable pub vehicle : Cell
vehicle = record {
  head = record {
    content = 5;
    area = 10000;
    version = 0;
    vft = 0x4061_E7E8;
    bb_min = vec 0xC080_0000 0xC040_0000 0xBF00_0000;
    bb_max = vec 0x4080_0000 0x4040_0000 0x4000_0000;
    bb_size = vec 0x4100_0000 0x40C0_0000 0x4020_0000;
  };
  polys =
      record {
        flags0 = 4;
        flags1 = 64;
        flags2 = 0;
        links = 0 ∷ [];
        vertices = vec 0xBF80_0000 0xBF80_0000 0 ∷ vec 0x3F80_0000 0xBF80_0000 0 ∷ vec 0x3F80_0000 0x3F80_0000 0x3DCC_CCCD ∷ [];
        edges = no_edge ∷ both (half 10000 1 0 0) ∷ no_edge ∷ both (half 555 1 0 0) ∷ [];
      }
      ∷ record {
        flags0 = 0;
        flags1 = 512;
        flags2 = 7;
        links = 3 ∷ [];
        vertices =
            vec 0x3F80_0000 0xBF80_0000 0 ∷ vec 0x4040_0000 0xBF80_0000 0 ∷ vec 0x4040_0000 0x3F80_0000 0 ∷ vec 0x3F80_0000 0x3F80_0000 0x3DCC_CCCD ∷ [];
        edges = both (half 321 2 0 0) ∷ no_edge ∷ [];
      }
      ∷ [];
  portals = [];
  points = record { angle = 255; kind = 254; position = vec 0xC080_0000 0x4040_0000 0x3F80_0000 } ∷ [];
}

unfoldable pub vehicle_pages : List ℕ
vehicle_pages =
    0x4061E7E8 ∷ 1 ∷ 0 ∷ 0 ∷ 5 ∷ 0x10011 ∷ 0 ∷ 0 ∷ 0x3F800000 ∷ 0 ∷ 0 ∷ 0x7FC00000 ∷ 0 ∷ 0x3F800000 ∷ 0 ∷ 0x7FC00000
    ∷ 0 ∷ 0 ∷ 0x3F800000 ∷ 0x7FC00000 ∷ 0 ∷ 0 ∷ 0 ∷ 0x7FC00000 ∷ 0x41000000 ∷ 0x40C00000 ∷ 0x40200000 ∷ 0x7F800001 ∷ 0x50000170 ∷ 0 ∷ 0 ∷ 0
    ∷ 0x500001E0 ∷ 0 ∷ 0x50000240 ∷ 0 ∷ 7 ∷ 7 ∷ 0x2710 ∷ 0x3FFF ∷ 0x26AC ∷ 0x270F ∷ 0x2711 ∷ 0x2774 ∷ 0x141 ∷ 0 ∷ 0 ∷ 0
    ∷ 0 ∷ 0 ∷ 0 ∷ 0 ∷ 0 ∷ 0 ∷ 0 ∷ 0 ∷ 0 ∷ 0 ∷ 0 ∷ 0 ∷ 0 ∷ 0 ∷ 0 ∷ 0
    ∷ 0 ∷ 0 ∷ 0 ∷ 0 ∷ 0 ∷ 0 ∷ 0x500002D0 ∷ 0 ∷ 0x50000380 ∷ 0 ∷ 0 ∷ 0 ∷ 0x50000420 ∷ 0 ∷ 5 ∷ 2
    ∷ 0x2710 ∷ 0x150 ∷ 1 ∷ 0 ∷ 2 ∷ 0 ∷ 0 ∷ 0 ∷ 0 ∷ 0 ∷ 0 ∷ 0 ∷ 0x4061E8F8 ∷ 1 ∷ 5 ∷ 0
    ∷ 0x500001A0 ∷ 0 ∷ 0x500001D0 ∷ 0 ∷ 1 ∷ 0 ∷ 0 ∷ 0 ∷ 0x500001B0 ∷ 0 ∷ 5 ∷ 0 ∷ 0x55556000 ∷ 0x9FFF3333 ∷ 0x33335555 ∷ 0xAAAA9FFF
    ∷ 0xDFFF3D70 ∷ 0x33335555 ∷ 0xAAAADFFF ∷ 0x3333 ∷ 0 ∷ 0 ∷ 0 ∷ 0 ∷ 0x4061E8D8 ∷ 1 ∷ 7 ∷ 0 ∷ 0x50000210 ∷ 0 ∷ 0x50000230 ∷ 0
    ∷ 1 ∷ 0 ∷ 0 ∷ 0 ∷ 0x50000220 ∷ 0 ∷ 7 ∷ 0 ∷ 0x10000 ∷ 0x10002 ∷ 0x40003 ∷ 2 ∷ 0 ∷ 0 ∷ 0 ∷ 0
    ∷ 0x4061E8E8 ∷ 1 ∷ 7 ∷ 0 ∷ 0x50000270 ∷ 0 ∷ 0x500002C0 ∷ 0 ∷ 1 ∷ 0 ∷ 0 ∷ 0 ∷ 0x50000280 ∷ 0 ∷ 7 ∷ 0
    ∷ 0x7FFE1 ∷ 0x7FFE1 ∷ 0x20 ∷ 0x20 ∷ 0x7FFE1 ∷ 0x7FFE1 ∷ 0x46 ∷ 0x46 ∷ 0x7FFE1 ∷ 0x7FFE1 ∷ 0x7FFE1 ∷ 0x7FFE1 ∷ 0x7FFE1 ∷ 0x7FFE1 ∷ 0 ∷ 0
    ∷ 0 ∷ 0 ∷ 0 ∷ 0 ∷ 0x4061E8C8 ∷ 1 ∷ 2 ∷ 0 ∷ 0x50000300 ∷ 0 ∷ 0x50000370 ∷ 0 ∷ 1 ∷ 0 ∷ 0 ∷ 0
    ∷ 0x50000310 ∷ 0 ∷ 2 ∷ 0 ∷ 0x600004 ∷ 0x27100000 ∷ 0 ∷ 0 ∷ 0 ∷ 0 ∷ 0x4FFFC ∷ 0x4FFFC ∷ 0x10000 ∷ 0x40 ∷ 0 ∷ 0x1000
    ∷ 0x800000 ∷ 0x27100003 ∷ 0 ∷ 0 ∷ 0 ∷ 0 ∷ 0xC0004 ∷ 0x4FFFC ∷ 0x10000 ∷ 0x200 ∷ 7 ∷ 0x9000 ∷ 0 ∷ 0 ∷ 0 ∷ 0
    ∷ 0xC0800000 ∷ 0xC0400000 ∷ 0xBF000000 ∷ 0x7FC00000 ∷ 0x40800000 ∷ 0x40400000 ∷ 0x40000000 ∷ 0x7FC00000 ∷ 0x10FFF0 ∷ 0xCFFF4 ∷ 0x8FFFE ∷ 0x50000400 ∷ 0 ∷ 0 ∷ 0 ∷ 0
    ∷ 0 ∷ 0 ∷ 0 ∷ 0 ∷ 0 ∷ 0 ∷ 0 ∷ 0 ∷ 0x10000 ∷ 0 ∷ 0 ∷ 0 ∷ 0xFFFF0000 ∷ 0xFEFF9999 ∷ 0 ∷ 0
    ∷ 0 ∷ 0 ∷ 0x500003E0 ∷ 0 ∷ 0x500003F0 ∷ 0 ∷ 0x10002 ∷ 0 ∷ 0x30000 ∷ []

unfoldable pub vehicle_again : List ℕ
vehicle_again =
    0x10000000 ∷ 5 ∷ 0x2710 ∷ 0 ∷ 0x4061E7E8 ∷ 0xC0800000 ∷ 0xC0400000 ∷ 0xBF000000 ∷ 0x40800000 ∷ 0x40400000 ∷ 0x40000000 ∷ 0x41000000 ∷ 0x40C00000 ∷ 0x40200000 ∷ 0x21003003 ∷ 4
    ∷ 0x40 ∷ 0 ∷ 0 ∷ 0xBF7FFD00 ∷ 0xBF800000 ∷ 0 ∷ 0x3F7FFD00 ∷ 0xBF800000 ∷ 0 ∷ 0x3F7FFD00 ∷ 0x3F800000 ∷ 0x3DCCC4D0 ∷ 0x3FFF ∷ 0x3FFF ∷ 0 ∷ 0x3FFF
    ∷ 0x3FFF ∷ 0 ∷ 0x2710 ∷ 1 ∷ 0 ∷ 0x2710 ∷ 1 ∷ 0 ∷ 0x3FFF ∷ 0x3FFF ∷ 0 ∷ 0x3FFF ∷ 0x3FFF ∷ 0 ∷ 0x21004004 ∷ 0
    ∷ 0x200 ∷ 7 ∷ 3 ∷ 0x3F7FFD00 ∷ 0xBF800000 ∷ 0 ∷ 0x403FFFC0 ∷ 0xBF800000 ∷ 0 ∷ 0x403FFFC0 ∷ 0x3F800000 ∷ 0 ∷ 0x3F7FFD00 ∷ 0x3F800000 ∷ 0x3DCCC4D0 ∷ 0x141
    ∷ 2 ∷ 0 ∷ 0x141 ∷ 2 ∷ 0 ∷ 0x3FFF ∷ 0x3FFF ∷ 0 ∷ 0x3FFF ∷ 0x3FFF ∷ 0 ∷ 0x3FFF ∷ 0x3FFF ∷ 0 ∷ 0x3FFF ∷ 0x3FFF
    ∷ 0 ∷ 0x3FFF ∷ 0x3FFF ∷ 0 ∷ 0x3FFF ∷ 0x3FFF ∷ 0 ∷ 0x4000FEFF ∷ 0xC0800000 ∷ 0x40400000 ∷ 0x3F800000 ∷ 0x50000000 ∷ []

pub vehicle_pages_lem : pages vehicle ≡ les 4 vehicle_pages
unfolding computed vehicle vehicle_pages
vehicle_pages_lem = refl

pub vehicle_again_lem : encode (reread vehicle) ≡ vehicle_again
unfolding computed vehicle vehicle_again
vehicle_again_lem = encode_plain (reread vehicle)

-- P12: an empty cell with the box and area of another
abbrev pub emptied : Cell → Cell
emptied c = record { head = c.head; polys = []; portals = []; points = [] }

pub p12_vehicle : length (pages (emptied vehicle)) ≡ 688
unfolding computed vehicle
p12_vehicle = refl

pub p12_total : (counts (emptied vehicle)).total ≡ 128
unfolding computed vehicle
p12_total = refl

pub p12_grid : length (pages (emptied grid)) ≡ 3088
unfolding computed grid
p12_grid = refl
