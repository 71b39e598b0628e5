-- The words in which a polygon's record is made. Definitions only.
use Rattle.std.specs.Prelude.{ℕ, ◌+◌, ◌*◌, ◌%◌, List, [], ◌∷◌, length}
use Rattle.fields.specs.Rows.{pack}
use Rattle.strip.specs.Cell.{NavPoly}
use Rattle.write_pages.specs.Items.{part_word}

-- two numbers of 16 bits in one word, the first below
abbrev pub pair_word : ℕ → ℕ → ℕ
pair_word a b = a % 65536 + 65536 * (b % 65536)

-- the vertex count in bits 5-15
abbrev pub count_bits : ℕ → ℕ
count_bits vertices = pack ((5, 0) ∷ (11, vertices) ∷ [])

-- twelve words to a polygon: it is number k, `start` indices and `before` links come before its own, own is the cell's area id, and x, y, z are the
-- words of its quarter box
unfoldable pub polygon_words : (own k start before x y z : ℕ) → NavPoly → List ℕ
polygon_words own k start before x y z p =
    pair_word p.flags0 (count_bits (length p.vertices)) ∷ pair_word start own ∷ 0 ∷ 0 ∷ 0 ∷ 0 ∷ x ∷ y ∷ z
    ∷ p.flags1 ∷ p.flags2 ∷ part_word k (length p.links) before ∷ []
