-- The format's own numbers, by the names that they have in the Rust: bytes of each record, and what a list's header begins with. Definitions only.
use Rattle.std.specs.Prelude.{ℕ}

abbrev pub navmesh_size : ℕ
navmesh_size = 368

abbrev pub list_size : ℕ
list_size = 48

abbrev pub list_part_size : ℕ
list_part_size = 16

abbrev pub vertex_size : ℕ
vertex_size = 6

abbrev pub index_size : ℕ
index_size = 2

abbrev pub edge_size : ℕ
edge_size = 8

abbrev pub poly_size : ℕ
poly_size = 48

abbrev pub sector_size : ℕ
sector_size = 96

abbrev pub sector_data_size : ℕ
sector_data_size = 32

abbrev pub point_size : ℕ
point_size = 8

abbrev pub portal_size : ℕ
portal_size = 28

abbrev pub list_vft_vertices : ℕ
list_vft_vertices = 1080158456

abbrev pub list_vft_indices : ℕ
list_vft_indices = 1080158424

abbrev pub list_vft_edges : ℕ
list_vft_edges = 1080158440

abbrev pub list_vft_polys : ℕ
list_vft_polys = 1080158408
