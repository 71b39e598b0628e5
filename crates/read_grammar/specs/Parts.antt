-- Parts of the two lent sections, and the items that a part holds. Definitions only.
use Rattle.std.specs.Prelude.{ℕ, suc, ◌*◌, ◌<◌, ◌≡◌, List, [], length}
use Rattle.fields.specs.Bytes.{cut}
use Rattle.resource.specs.Section.{resolved}

-- The n bytes at an address are a good part, with some bytes, and are b. A part is good when it is non-null and inside its section: then
-- its lookup has all n bytes, and otherwise none.
pub record Good (system graphics : List ℕ) (va n : ℕ) (b : List ℕ) : Type 0 where
  pub some : 0 < n
  pub there : resolved system graphics va n ≡ b
  pub length_is : length b ≡ n

-- n items of w bytes each at an address: a good part if there is any
pub data Array (system graphics : List ℕ) (w va : ℕ) : ℕ → List (List ℕ) → Type 0 where
  none : Array system graphics w va 0 []
  some : {n : ℕ} {b : List ℕ} → Good system graphics va (w * suc n) b → Array system graphics w va (suc n) (cut w (suc n) b)
