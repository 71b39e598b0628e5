-- P12's empty vehicle cell, area 10000: its 688 bytes of pages, field by field, and the strip that stands for it. Definitions only.
use Rattle.std.specs.Prelude.{ℕ, ◌+◌, List, [], ◌∷◌}
use Rattle.fields.specs.Bytes.{cat}
use Rattle.fields.specs.Rows.{row_bytes}
use Rattle.strip.specs.Cell.{Vec3, Cell}
use Rattle.fields.specs.Sizes.{list_vft_edges, list_vft_indices, list_vft_polys, list_vft_vertices}

-- the address of a place in the system section
abbrev at : ℕ → ℕ
at off = 0x5000_0000 + off

-- a row of a matrix or of a box: three numbers and the NaN
abbrev line : ℕ → ℕ → ℕ → List (ℕ × ℕ)
line x y z = (4, x) ∷ (4, y) ∷ (4, z) ∷ (4, 0x7FC0_0000) ∷ []

-- 368 bytes: the lists are at 368, 416, 464 and 512, the root at 560; six areas, and 128 bytes in total
unfoldable pub vehicle_header : List ℕ
vehicle_header =
    row_bytes (
    cat (
    ((4, 0) ∷ (4, 1) ∷ (8, 0) ∷ (4, 4) ∷ (4, 0x10011) ∷ (8, 0) ∷ [])
    ∷ line 0x3F80_0000 0 0 ∷ line 0 0x3F80_0000 0 ∷ line 0 0 0x3F80_0000 ∷ line 0 0 0
    ∷ ((4, 0) ∷ (4, 0) ∷ (4, 0) ∷ (4, 0x7F80_0001) ∷ (8, at 368) ∷ (8, 0) ∷ (8, at 416) ∷ (8, at 464) ∷ (4, 0) ∷ (4, 6) ∷ [])
    ∷ ((4, 10000) ∷ (4, 16383) ∷ (4, 9900) ∷ (4, 9999) ∷ (4, 10001) ∷ (4, 10100) ∷ (104, 0) ∷ [])
    ∷ ((8, at 512) ∷ (8, at 560) ∷ (8, 0) ∷ (8, 0) ∷ (4, 0) ∷ (4, 0) ∷ (4, 10000) ∷ (4, 128) ∷ (4, 0) ∷ (4, 0) ∷ (4, 0) ∷ (12, 0) ∷ (4, 0) ∷ (12, 0) ∷ [])
    ∷ []))

-- a list without items, 48 bytes at a place: its part table is behind it
unfoldable pub empty_list : ℕ → ℕ → List ℕ
empty_list vft off = row_bytes ((4, vft) ∷ (4, 1) ∷ (8, 0) ∷ (8, at (off + 48)) ∷ (8, 0) ∷ (4, 0) ∷ (12, 0) ∷ [])

-- the one sector, 96 bytes, whose data is at 656
unfoldable pub vehicle_sector : List ℕ
vehicle_sector = row_bytes (cat (line 0 0 0 ∷ line 0 0 0 ∷ ((12, 0) ∷ (8, at 656) ∷ (8, 0) ∷ (8, 0) ∷ (8, 0) ∷ (8, 0) ∷ (12, 0) ∷ []) ∷ []))

-- its data, 32 bytes: no ids and no points
unfoldable pub vehicle_data : List ℕ
vehicle_data = row_bytes ((8, 0) ∷ (8, 0) ∷ (8, 0) ∷ (2, 0) ∷ (2, 0) ∷ (4, 0) ∷ [])

unfoldable pub vehicle_pages : List ℕ
vehicle_pages =
    cat (
    vehicle_header ∷ empty_list list_vft_vertices 368 ∷ empty_list list_vft_indices 416 ∷ empty_list list_vft_edges 464 ∷ empty_list list_vft_polys 512
    ∷ vehicle_sector ∷ vehicle_data ∷ [])

-- the cell, and its strip of 15 words
abbrev zero3 : Vec3
zero3 = record { x = 0; y = 0; z = 0 }

unfoldable pub vehicle_cell : Cell
vehicle_cell = record {
  head = record { content = 4; area = 10000; version = 0; vft = 0; bb_min = zero3; bb_max = zero3; bb_size = zero3 };
  polys = [];
  portals = [];
  points = [];
}

abbrev pub vehicle_strip : List ℕ
vehicle_strip = 0x1000_0000 ∷ 4 ∷ 10000 ∷ 0 ∷ 0 ∷ 0 ∷ 0 ∷ 0 ∷ 0 ∷ 0 ∷ 0 ∷ 0 ∷ 0 ∷ 0 ∷ 0x5000_0000 ∷ []
