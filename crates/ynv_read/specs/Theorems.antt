-- What the reader's theorems say: when it accepts, and which refusals are named for reading. Definitions only.
use Rattle.std.specs.Prelude.{ℕ, ◌≤◌, ◌<◌, ◌≡◌, List, length}
use Rattle.read_grammar.specs.Derives.{Derives}
use Rattle.read_decide.specs.declared.Parsed.{Parsed}
use Rattle.read_decide.specs.Answer.{counts_of}

-- of the sections S and G with a strip of n words: the grammar derives w, it fits, and the answer counts the derived cell's parts and its tree's sectors
pub record Accepts (S G : List ℕ) (n : ℕ) (p : Parsed) (w : List ℕ) : Type 0 where
  pub derived : Derives S G w
  pub fits : length w ≤ n
  pub counts_are : p ≡ counts_of derived.cell derived.sectors

-- the refusals that are named for reading pages with so many polygons, each with its number and place: all but 2, which is the lent strip's
pub data Named (polys : ℕ) : ℕ → ℕ → Type 0 where
  bad_header : Named polys 30 0
  no_root : Named polys 31 0
  bad_sector : Named polys 32 0
  many_sectors : Named polys 33 0
  bad_data : Named polys 34 0
  bad_box : Named polys 40 0
  bad_list : {l : ℕ} → 1 ≤ l → l ≤ 4 → Named polys 35 l
  bad_counts : {l : ℕ} → 1 ≤ l → l ≤ 4 → Named polys 36 l
  bad_run : {p : ℕ} → p < polys → Named polys 37 p
  bad_index : {p : ℕ} → p < polys → Named polys 38 p
  bad_portals : Named polys 39 0
