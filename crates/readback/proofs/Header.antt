-- The fields of the written header are read back, a line each. Assumes nothing.
use mathlib.Core.Path.{◌≡◌, refl, sym, ap, subst, ◌∙◌}
use mathlib.Core.List.{List, [], ◌∷◌, ◌++◌}
use Prim.Native.Nat.{ℕ, zero, suc, ◌+◌, ◌*◌, ◌%◌, ◌^◌, ◌≤◌, ◌<◌}
use native.Mathlib.Nat.{zero-add, mod-eq_of_lt}
use native.Mathlib.Omega.{arith}
use lib.ListN.{length, get_or}
use borrow.Author.Tests.{lt-ltb}
use Rattle.fields.specs.Bytes.{le_at, les}
use Rattle.fields.specs.Rows.{row_bytes}
use Rattle.fields.specs.RowPlaces.{row_at}
use Rattle.fields.proofs.Bytes.{length_les}
use Rattle.fields.proofs.Holds.{Holds, all_held, held_in, held_first, held_second, number_in}
use Rattle.fields.proofs.Rows.{length_rows, field_in}
use Rattle.strip.specs.Cell.{Head}
use Rattle.strip.specs.Fits.{All}
use Rattle.read_grammar.specs.Derives.{area_of}
use Rattle.write_pages.specs.Pages.{padded, Places, HeaderCounts, header_first, header_last, header_bytes}
use Rattle.write_pages.proofs.Sizes.{length_padded}

get_d_padded : (n : ℕ) (l : List ℕ) (i : ℕ) → i < n → i < length l → get_or (padded n l) i 0 ≡ get_or l i 0
unfolding padded
get_d_padded zero l i h k = absurd (omega arith)
get_d_padded (suc n) [] i h k = absurd (omega arith)
get_d_padded (suc n) (x ∷ l) zero h k = refl
get_d_padded (suc n) (x ∷ l) (suc i) h k = get_d_padded n l i (omega arith) (omega arith)

below_at : (m : ℕ) (l : List ℕ) (i : ℕ) → i < length l → All (λ x. x < m) l → get_or l i 0 < m
below_at m [] i h k = absurd (omega arith)
below_at m (x ∷ l) zero h k = k.0
below_at m (x ∷ l) (suc i) h k = below_at m l i (omega arith) k.1

module _ (h : Head) (a : Places) (n : HeaderCounts) (areas : List ℕ) where
  abbrev H : List ℕ
  H = header_bytes h a n areas

  abbrev middle : List ℕ
  middle = les 4 (padded 32 areas)

  middle_length : length middle ≡ 128
  middle_length = length_les 4 (padded 32 areas) ∙ ap (λ (j : ℕ). 4 * j) (length_padded 32 areas)

  first_held : Holds H 0 (row_bytes (header_first h a n))
  unfolding header_bytes
  first_held = held_first (row_bytes (header_first h a n)) (middle ++ row_bytes (header_last h a n)) (all_held H)

  behind_first : Holds H 0x98 (middle ++ row_bytes (header_last h a n))
  unfolding header_bytes
  behind_first =
      subst (λ (j : ℕ). Holds H (0 + j) (middle ++ row_bytes (header_last h a n))) (length_rows (header_first h a n))
      (held_second (row_bytes (header_first h a n)) (middle ++ row_bytes (header_last h a n)) (all_held H))

  middle_held : Holds H 0x98 middle
  middle_held = held_first middle (row_bytes (header_last h a n)) behind_first

  last_held : Holds H 0x118 (row_bytes (header_last h a n))
  last_held = subst (λ (j : ℕ). Holds H (0x98 + j) (row_bytes (header_last h a n))) middle_length (held_second middle (row_bytes (header_last h a n)) behind_first)

  -- a field before the areas, and one behind them
  first_field : (off w v : ℕ) → 0 < w → row_at (header_first h a n) off ≡ (w, v) → v < 256 ^ w → le_at w H off ≡ v
  first_field off w v some e small = ap (le_at w H) (sym (zero-add off)) ∙ field_in (header_first h a n) off w v some e first_held ∙ mod-eq_of_lt small

  last_field : (off w v : ℕ) → 0 < w → row_at (header_last h a n) off ≡ (w, v) → v < 256 ^ w → le_at w H (0x118 + off) ≡ v
  last_field off w v some e small = field_in (header_last h a n) off w v some e last_held ∙ mod-eq_of_lt small

  pub vft_back : h.vft < 2 ^ 32 → le_at 4 H 0 ≡ h.vft
  vft_back s = first_field 0 4 h.vft (omega arith) refl s

  pub content_back : h.content < 2 ^ 32 → le_at 4 H 0x10 ≡ h.content
  content_back s = first_field 0x10 4 h.content (omega arith) refl s

  pub size_x_back : h.bb_size.x < 2 ^ 32 → le_at 4 H 0x60 ≡ h.bb_size.x
  size_x_back s = first_field 0x60 4 h.bb_size.x (omega arith) refl s

  pub size_y_back : h.bb_size.y < 2 ^ 32 → le_at 4 H 0x64 ≡ h.bb_size.y
  size_y_back s = first_field 0x64 4 h.bb_size.y (omega arith) refl s

  pub size_z_back : h.bb_size.z < 2 ^ 32 → le_at 4 H 0x68 ≡ h.bb_size.z
  size_z_back s = first_field 0x68 4 h.bb_size.z (omega arith) refl s

  pub vertices_back : a.vertices < 2 ^ 64 → le_at 8 H 0x70 ≡ a.vertices
  vertices_back s = first_field 0x70 8 a.vertices (omega arith) refl s

  pub indices_back : a.indices < 2 ^ 64 → le_at 8 H 0x80 ≡ a.indices
  indices_back s = first_field 0x80 8 a.indices (omega arith) refl s

  pub edges_back : a.edges < 2 ^ 64 → le_at 8 H 0x88 ≡ a.edges
  edges_back s = first_field 0x88 8 a.edges (omega arith) refl s

  pub area_count_back : n.areas < 2 ^ 32 → le_at 4 H 0x94 ≡ n.areas
  area_count_back s = first_field 0x94 4 n.areas (omega arith) refl s

  pub polygons_back : a.polygons < 2 ^ 64 → le_at 8 H 0x118 ≡ a.polygons
  polygons_back s = last_field 0 8 a.polygons (omega arith) refl s

  pub root_back : a.root < 2 ^ 64 → le_at 8 H 0x120 ≡ a.root
  root_back s = last_field 8 8 a.root (omega arith) refl s

  pub portals_back : a.portals < 2 ^ 64 → le_at 8 H 0x128 ≡ a.portals
  portals_back s = last_field 0x10 8 a.portals (omega arith) refl s

  pub links_back : a.links < 2 ^ 64 → le_at 8 H 0x130 ≡ a.links
  links_back s = last_field 0x18 8 a.links (omega arith) refl s

  pub area_back : h.area < 2 ^ 32 → le_at 4 H 0x140 ≡ h.area
  area_back s = last_field 0x28 4 h.area (omega arith) refl s

  -- nobody reads this one: of whatever holds the header
  pub point_count_back : {s : List ℕ} → Holds s 0 H → n.points < 2 ^ 32 → le_at 4 s 0x148 ≡ n.points
  point_count_back held small = field_in (header_last h a n) 0x30 4 n.points (omega arith) refl (held_in held last_held) ∙ mod-eq_of_lt small

  pub portal_count_back : n.portals < 2 ^ 32 → le_at 4 H 0x14C ≡ n.portals
  portal_count_back s = last_field 0x34 4 n.portals (omega arith) refl s

  pub link_count_back : n.links < 2 ^ 32 → le_at 4 H 0x150 ≡ n.links
  link_count_back s = last_field 0x38 4 n.links (omega arith) refl s

  pub version_back : h.version < 2 ^ 32 → le_at 4 H 0x160 ≡ h.version
  version_back s = last_field 0x48 4 h.version (omega arith) refl s

  -- the area of each index of the table
  pub areas_back : n.areas ≡ length areas → length areas ≤ 32 → All (λ x. x < 2 ^ 32) areas → (i : ℕ) → i < length areas → area_of H i ≡ get_or areas i 0
  unfolding area_of
  areas_back e few small i k =
      let count : le_at 4 H 0x94 ≡ length areas = area_count_back (omega arith) ∙ e in
      let value : le_at 4 H (0x98 + 4 * i) ≡ get_or areas i 0 =
      number_in H 0x98 4 (padded 32 areas) i (omega (arith, length_padded 32 areas)) middle_held
      ∙ ap (λ (x : ℕ). x % 2 ^ 32) (get_d_padded 32 areas i (omega arith) k) ∙ mod-eq_of_lt (below_at (2 ^ 32) areas i k small) in
      rw (count, lt-ltb i (length areas) k, value)
