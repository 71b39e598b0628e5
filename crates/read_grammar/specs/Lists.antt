-- The grammar of lists: header, part table, parts. Definitions only.
use Rattle.std.specs.Prelude.{ℕ, suc, ◌+◌, ◌*◌, ◌<◌, ◌≡◌, List, [], ◌++◌, length}
use Rattle.fields.specs.Bytes.{le_at, cut}
use Rattle.read_grammar.specs.Parts.{Good}
use Rattle.fields.specs.Sizes.{list_part_size, list_size}

-- the part table of k parts at an address, 16 bytes each, unless k is 0
pub data Table (system graphics : List ℕ) (va : ℕ) : ℕ → List ℕ → Type 0 where
  no_table : Table system graphics va 0 []
  table : {k : ℕ} {t : List ℕ} → Good system graphics va (list_part_size * suc k) t → Table system graphics va (suc k) t

-- The bytes of the items, w bytes each, of the k parts that the table t names from its byte `at` on: address, item count at 8. A part with
-- count 0 is skipped.
pub data Parts (system graphics : List ℕ) (w : ℕ) (t : List ℕ) : ℕ → ℕ → List ℕ → Type 0 where
  no_part : {at : ℕ} → Parts system graphics w t at 0 []
  skipped : {at k : ℕ} {bs : List ℕ} → le_at 4 t (at + 8) ≡ 0 → Parts system graphics w t (at + list_part_size) k bs → Parts system graphics w t at (suc k) bs
  part : {at k : ℕ} {b bs : List ℕ} → Good system graphics (le_at 8 t at) (w * le_at 4 t (at + 8)) b → Parts system graphics w t (at + list_part_size) k bs
      → Parts system graphics w t at (suc k) (b ++ bs)

-- The list at an address that isn't 0: item count at 8, address of the part table at 0x10, part count at 0x20. The parts' counts add up to the
-- item count.
pub record ListAt (system graphics : List ℕ) (va w : ℕ) (items : List (List ℕ)) : Type 0 where
  pub header : List ℕ
  pub parts : List ℕ
  pub bytes : List ℕ
  pub header_good : Good system graphics va list_size header
  pub parts_good : Table system graphics (le_at 8 header 0x10) (le_at 4 header 0x20) parts
  pub items_good : Parts system graphics w parts 0 (le_at 4 header 0x20) bytes
  pub adds_up : length bytes ≡ w * le_at 4 header 8
  pub are : items ≡ cut w (le_at 4 header 8) bytes

-- the items of the list at an address: none at address 0
pub data Items (system graphics : List ℕ) (w : ℕ) : ℕ → List (List ℕ) → Type 0 where
  empty : Items system graphics w 0 []
  some : {va : ℕ} {items : List (List ℕ)} → 0 < va → ListAt system graphics va w items → Items system graphics w va items
