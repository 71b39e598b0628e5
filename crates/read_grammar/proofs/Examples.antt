-- The grammar isn't empty: the pages of P12's empty vehicle cell derive its strip, with one sector, by computation. Assumes nothing.
use mathlib.Core.Path.{◌≡◌, refl, sym}
use mathlib.Core.List.{List, []}
use Prim.Native.Nat.{ℕ, ◌+◌, ◌<◌}
use native.Mathlib.Nat.{mul-zero}
use native.Mathlib.Omega.{arith}
use lib.ListN.{length}
use Rattle.fields.specs.Bytes.{le_at, le_bytes, cat, cut}
use Rattle.fields.specs.Rows.{row_bytes, pack}
use Rattle.resource.specs.Section.{part, resolved}
use Rattle.strip.specs.Cell.{vec_words, head_words, each}
use Rattle.strip.proofs.Plain.{encode_plain}
use Rattle.strip.specs.Box.{finite_box}
use Rattle.read_grammar.specs.Parts.{Good, Array}
use Rattle.read_grammar.specs.Trees.{Data, data_at, subs_to, Trees, Tree}
use Rattle.read_grammar.specs.Lists.{no_table, no_part, Items, some}
use Rattle.read_grammar.specs.Polygons.{none}
use Rattle.read_grammar.specs.Derives.{vec_of, head_of, Makes, Derives}
use Rattle.read_grammar.specs.Vehicle.{vehicle_header, empty_list, vehicle_sector, vehicle_data, vehicle_pages, vehicle_cell, vehicle_strip}
use Rattle.fields.specs.Sizes.{list_vft_edges, list_vft_indices, list_vft_polys, list_vft_vertices}

pub p12_length : length vehicle_pages ≡ 688
unfolding vehicle_pages vehicle_header empty_list vehicle_sector vehicle_data row_bytes le_bytes cat
p12_length = refl

pub p12_total : le_at 4 vehicle_pages 0x144 ≡ 128
unfolding vehicle_pages vehicle_header row_bytes le_bytes cat le_at
p12_total = refl

module _ (graphics : List ℕ) where
  -- a block stands at a place
  abbrev At : ℕ → ℕ → List ℕ → Type 0
  At off n b = Good vehicle_pages graphics (0x5000_0000 + off) n b

  found : (off n : ℕ) {b : List ℕ} → 0 < n → resolved vehicle_pages graphics (0x5000_0000 + off) n ≡ b → length b ≡ n → At off n b
  found off n h e l = record { some = h; there = e; length_is = l }

  blocks : At 0 368 vehicle_header × At 368 48 (empty_list list_vft_vertices 368) × At 416 48 (empty_list list_vft_indices 416) × At 464 48 (empty_list list_vft_edges 464)
      × At 512 48 (empty_list list_vft_polys 512) × At 560 96 vehicle_sector × At 656 32 vehicle_data
  unfolding vehicle_pages vehicle_header empty_list vehicle_sector vehicle_data row_bytes le_bytes cat resolved part
  blocks = (
    found 0 368 (omega arith) refl refl,
    found 368 48 (omega arith) refl refl,
    found 416 48 (omega arith) refl refl,
    found 464 48 (omega arith) refl refl,
    found 512 48 (omega arith) refl refl,
    found 560 96 (omega arith) refl refl,
    found 656 32 (omega arith) refl refl,
  )

  leaf : Data vehicle_pages graphics vehicle_sector []
  unfolding vehicle_sector vehicle_data row_bytes le_bytes cat le_at
  leaf = data_at (omega arith) blocks.6 Array.none

  tree : Tree vehicle_pages graphics (0x5000_0000 + 560) 1 []
  unfolding vehicle_sector row_bytes le_bytes cat le_at subs_to
  tree = Trees.tree blocks.5 leaf Trees.none Trees.none

  no_items : (w vft off : ℕ) → At off 48 (empty_list vft off) → Items vehicle_pages graphics w (0x5000_0000 + off) []
  unfolding empty_list row_bytes le_bytes le_at cut
  no_items w vft off g =
      some {va = 0x5000_0000 + off} (omega arith)
      (record { header = empty_list vft off; parts = []; bytes = []; header_good = g; parts_good = no_table; items_good = no_part; adds_up = sym (mul-zero w); are = refl })

  pub p12_makes : Makes vehicle_pages graphics 1 vehicle_cell
  unfolding vehicle_cell vehicle_header vehicle_sector row_bytes le_bytes cat le_at vec_of head_of finite_box
  p12_makes = record {
    header = vehicle_header;
    root = vehicle_sector;
    vertices = [];
    indices = [];
    edges = [];
    polygons = [];
    portals = [];
    points = [];
    header_good = blocks.0;
    root_good = blocks.5;
    head_is = refl;
    finite_box_is = refl;
    tree = tree;
    few_sectors = omega arith;
    vertex_list = no_items 6 list_vft_vertices 368 blocks.1;
    index_list = no_items 2 list_vft_indices 416 blocks.2;
    edge_list = no_items 8 list_vft_edges 464 blocks.3;
    polygon_list = no_items 48 list_vft_polys 512 blocks.4;
    portal_list = Array.none;
    polygons_are = none;
    portals_are = refl;
    points_are = refl;
  }

  -- P12's vehicle derives its strip, whatever the graphics section
  pub p12_derives : Derives vehicle_pages graphics vehicle_strip
  unfolding vehicle_cell head_words vec_words each pack
  p12_derives = record { sectors = 1; cell = vehicle_cell; makes = p12_makes; strip = sym (encode_plain vehicle_cell) }
