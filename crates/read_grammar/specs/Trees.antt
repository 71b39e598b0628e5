-- The grammar of sector trees. Definitions only.
use Rattle.std.specs.Prelude.{ℕ, zero, suc, ◌+◌, ◌*◌, ◌<◌, ◌≡◌, List, [], ◌∷◌, ◌++◌}
use Rattle.fields.specs.Bytes.{le_at}
use Rattle.read_grammar.specs.Parts.{Good, Array}
use Rattle.fields.specs.Sizes.{point_size, sector_data_size, sector_size}

-- A sector's data: good if its address, at 0x2C, isn't 0, and its points, 8 bytes each, good if their count isn't 0. The points are ps.
pub data Data (system graphics sector : List ℕ) : List (List ℕ) → Type 0 where
  no_data : le_at 8 sector 0x2C ≡ 0 → Data system graphics sector []
  data_at : {d : List ℕ} {ps : List (List ℕ)} → 0 < le_at 8 sector 0x2C → Good system graphics (le_at 8 sector 0x2C) sector_data_size d
      → Array system graphics point_size (le_at 8 d 0x10) (le_at 2 d 0x1A) ps → Data system graphics sector ps

-- an address before others, unless it is 0
abbrev pub keep : ℕ → List ℕ → List ℕ
keep zero vas = vas
keep (suc va) vas = suc va ∷ vas

-- the non-zero ones of a sector's first i subs, which stand from 0x34 on, the last first
unfoldable pub subs_to : List ℕ → ℕ → List ℕ
subs_to sector zero = []
subs_to sector (suc i) = keep (le_at 8 sector (0x34 + 8 * i)) (subs_to sector i)

-- A tree at each address of a list, with n sectors in all, where one reached twice counts twice, and the points in preorder.
-- A tree is a good sector, its data, and a tree at each non-zero sub: 3, 2, 1, 0.
pub data Trees (system graphics : List ℕ) : List ℕ → ℕ → List (List ℕ) → Type 0 where
  none : Trees system graphics [] 0 []
  tree : {va n m : ℕ} {s vas : List ℕ} {ps qs rs : List (List ℕ)} → Good system graphics va sector_size s → Data system graphics s ps
      → Trees system graphics (subs_to s 4) n qs → Trees system graphics vas m rs
      → Trees system graphics (va ∷ vas) (suc (n + m)) (ps ++ (qs ++ rs))

-- the tree at an address
abbrev pub Tree : List ℕ → List ℕ → ℕ → ℕ → List (List ℕ) → Type 0
Tree system graphics va n ps = Trees system graphics (va ∷ []) n ps
