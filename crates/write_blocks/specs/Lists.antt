-- A list in the pages: header, part table, items of each part, offsets. An item is its bytes, so that one definition serves vertices, indices,
-- edges and polygons. Sizes and positions come from the number of items alone, contents from the positions. Definitions only.
use Rattle.std.specs.Prelude.{ℕ, zero, suc, ◌+◌, ◌-◌, ◌*◌, ◌/◌, min, List, [], ◌∷◌, ◌++◌, map, length, take, drop}
use Rattle.fields.specs.Bytes.{les, cat}
use Rattle.fields.specs.Rows.{row_bytes}
use Rattle.write_blocks.specs.Layout.{page_size, place_of, behind, end_of, address}
use Rattle.fields.specs.Sizes.{list_part_size, list_size}

-- a part's items take at most a page
abbrev pub part_size : ℕ
part_size = page_size

-- how many items of w bytes a part takes
abbrev pub per_part : ℕ → ℕ
per_part w = part_size / w

-- how many parts n items of w bytes take
abbrev pub part_count : ℕ → ℕ → ℕ
part_count w n = (n + (per_part w - 1)) / per_part w

-- how many items each of k parts has, of n in all: `per`, and the last what is left
abbrev pub part_counts : ℕ → ℕ → ℕ → List ℕ
part_counts zero per n = []
part_counts (suc k) per n = min per n ∷ part_counts k per (n - min per n)

-- xs in k parts of as many
abbrev pub chunks : {A : Type 0} → ℕ → ℕ → List A → List (List A)
chunks zero per xs = []
chunks (suc k) per xs = take (min per (length xs)) xs ∷ chunks k per (drop (min per (length xs)) xs)

-- each part's first item number, the first part's being f
abbrev pub firsts : ℕ → List ℕ → List ℕ
firsts f [] = []
firsts f (m ∷ ms) = f ∷ firsts (f + m) ms

-- ---- sizes: of the parts' items, of the offsets, which have a block where there is a part, and of a list of n items of w bytes

abbrev pub sizes : ℕ → List ℕ → List ℕ
sizes w [] = []
sizes w (m ∷ ms) = w * m ∷ sizes w ms

abbrev pub part_sizes : ℕ → ℕ → List ℕ
part_sizes w n = sizes w (part_counts (part_count w n) (per_part w) n)

abbrev pub offset_sizes : ℕ → List ℕ
offset_sizes zero = []
offset_sizes (suc j) = 4 * suc j ∷ []

abbrev pub list_sizes : (w n : ℕ) → List ℕ
list_sizes w n = list_size ∷ list_part_size * part_count w n ∷ (part_sizes w n ++ offset_sizes (part_count w n))

-- ---- positions in a list that is laid out behind `end`: of the part table of k parts, behind it, and behind the items

abbrev pub table_at : (end k : ℕ) → ℕ
table_at end k = place_of (behind end list_size) (list_part_size * k)

abbrev pub parts_from : (end k : ℕ) → ℕ
parts_from end k = behind (behind end list_size) (list_part_size * k)

abbrev pub items_end : (end w n : ℕ) → ℕ
items_end end w n = end_of (parts_from end (part_count w n)) (part_sizes w n)

-- the offsets' address, the items of k parts ending at q: 0 where there is no part
abbrev pub offsets_address : (q k : ℕ) → ℕ
offsets_address q zero = 0
offsets_address q (suc j) = address (place_of q (4 * suc j))

-- ---- contents

-- a list's header, 48 bytes
abbrev pub list_row : (vft n table offsets parts : ℕ) → List (ℕ × ℕ)
list_row vft n table offsets parts =
    (4, vft) ∷ (4, 1) ∷ (4, n) ∷ (4, 0) ∷ (8, table) ∷ (8, offsets) ∷ (4, parts) ∷ (4, 0) ∷ (8, 0) ∷ []

-- a part's entry in the table, 16 bytes
abbrev pub part_row : (start m : ℕ) → List (ℕ × ℕ)
part_row start m = (8, address start) ∷ (4, m) ∷ (4, 0) ∷ []

-- the part table of parts of ms items, which are laid out from `end` on
unfoldable pub table_bytes : (w end : ℕ) → List ℕ → List ℕ
table_bytes w end [] = []
table_bytes w end (m ∷ ms) = row_bytes (part_row (place_of end (w * m)) m) ++ table_bytes w (behind end (w * m)) ms

-- the blocks before the items: header and part table, which is laid out even when there are no parts
unfoldable pub front_blocks : (end vft w n : ℕ) → List (List ℕ)
front_blocks end vft w n =
    row_bytes (list_row vft n (address (table_at end (part_count w n))) (offsets_address (items_end end w n) (part_count w n)) (part_count w n))
    ∷ table_bytes w (parts_from end (part_count w n)) (part_counts (part_count w n) (per_part w) n)
    ∷ []

-- the blocks of the items, one for each part
abbrev pub part_blocks : ℕ → List (List ℕ) → List (List ℕ)
part_blocks w items = map cat (chunks (part_count w (length items)) (per_part w) items)

-- the block of the offsets of parts of ms items, if there is a part
abbrev pub offset_blocks : List ℕ → List (List ℕ)
offset_blocks [] = []
offset_blocks (m ∷ ms) = les 4 (firsts 0 (m ∷ ms)) ∷ []

-- the blocks of a list of items of w bytes, laid out behind `end`
unfoldable pub list_blocks : (end vft w : ℕ) → List (List ℕ) → List (List ℕ)
list_blocks end vft w items =
    front_blocks end vft w (length items)
    ++ (part_blocks w items ++ offset_blocks (part_counts (part_count w (length items)) (per_part w) (length items)))
