-- The items of a list that was read. Definitions only.
use Rattle.std.specs.Prelude.{ℕ, List}
use Rattle.fields.specs.Bytes.{cut}
use Rattle.read_lists.specs.Lists.{total, list_bytes}

-- by its part table
unfoldable pub items_in : List ℕ → List ℕ → ℕ → List ℕ → List (List ℕ)
items_in system graphics w table = cut w (total table) (list_bytes system graphics w table)
