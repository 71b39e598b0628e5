-- A list as it is decided on: the bytes that its parts hold, and the refusals 35 and 36. Definitions only.
use Rattle.std.specs.Prelude.{ℕ, zero, suc, ◌+◌, ◌*◌, ◌/◌, Bool, true, cond, ◌&&◌, ◌||◌, List, [], ◌++◌, eqb, length, take, drop}
use Rattle.fields.specs.Bytes.{le_at}
use Rattle.resource.specs.Section.{good, resolved}
use Rattle.strip.specs.Outcome.{Paper, values, refusal}
use Rattle.fields.specs.Sizes.{list_part_size, list_size}

-- item i of a list of bytes, size bytes to an item
unfoldable pub item : ℕ → List ℕ → ℕ → List ℕ
item size bytes i = take size (drop (size * i) bytes)

-- entry k of a part table, 16 bytes: its address, and its item count at 8
unfoldable pub address_at : List ℕ → ℕ → ℕ
address_at table k = le_at 8 table (list_part_size * k)

unfoldable pub count_at : List ℕ → ℕ → ℕ
count_at table k = le_at 4 table (list_part_size * k + 8)

-- the parts that a table has
abbrev pub parts : List ℕ → ℕ
parts table = length table / list_part_size

-- how many items stand before part k
unfoldable pub before : List ℕ → ℕ → ℕ
before table zero = 0
before table (suc k) = before table k + count_at table k

-- the items of all parts
abbrev pub total : List ℕ → ℕ
total table = before table (parts table)

module _ (system graphics : List ℕ) where
  -- the n bytes at an address are a good part, or there is nothing to look at
  unfoldable pub readable_at : ℕ → ℕ → Bool
  readable_at va n = eqb n 0 || good system graphics va n

  -- the list's header, and its part table: address at 0x10, part count at 0x20
  unfoldable pub header : ℕ → List ℕ
  header va = resolved system graphics va list_size

  unfoldable pub table_of : ℕ → List ℕ
  table_of va = resolved system graphics (le_at 8 (header va) 0x10) (list_part_size * le_at 4 (header va) 0x20)

module _ (system graphics : List ℕ) (size : ℕ) where
  unfoldable pub part_bytes : List ℕ → ℕ → List ℕ
  part_bytes table k = resolved system graphics (address_at table k) (size * count_at table k)

  -- a part with count 0 is skipped
  unfoldable pub part_good : List ℕ → ℕ → Bool
  part_good table k = readable_at system graphics (address_at table k) (size * count_at table k)

  -- the bytes of the first k parts, one part after the other, and whether these are good
  unfoldable pub bytes_to : List ℕ → ℕ → List ℕ
  bytes_to table zero = []
  bytes_to table (suc k) = bytes_to table k ++ part_bytes table k

  unfoldable pub good_to : List ℕ → ℕ → Bool
  good_to table zero = true
  good_to table (suc k) = good_to table k && part_good table k

  -- all the bytes of a list
  unfoldable pub list_bytes : List ℕ → List ℕ
  list_bytes table = bytes_to table (parts table)

  abbrev pub all_good : List ℕ → Bool
  all_good table = good_to table (parts table)

  -- the list at an address: address 0 is empty; 35 header, part table or a part not good; 36 the counts don't add up to the item count at 8
  unfoldable pub listed : ℕ → ℕ → Paper ℕ
  listed va place =
      cond (eqb va 0) (values 0)
      (cond (readable_at system graphics va list_size)
      (cond (readable_at system graphics (le_at 8 (header system graphics va) 0x10) (list_part_size * le_at 4 (header system graphics va) 0x20))
      (cond (all_good (table_of system graphics va))
      (cond (eqb (total (table_of system graphics va)) (le_at 4 (header system graphics va) 8))
      (values (le_at 4 (header system graphics va) 8))
      (refusal 36 place))
      (refusal 35 place))
      (refusal 35 place))
      (refusal 35 place))
