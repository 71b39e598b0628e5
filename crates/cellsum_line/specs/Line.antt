-- The line that `cellsum` prints of a cell's system pages. Definitions only.
use Rattle.std.specs.Prelude.{ℕ, cond, List, [], ◌∷◌, leb, length, get_or}
use Rattle.fields.specs.Bytes.{cat}
use Rattle.strip.specs.Outcome.{Outcome, refused, done}
use Rattle.decimal.specs.Text.{ascii, named}
use Rattle.read_decide.specs.declared.Parsed.{Parsed}
use Rattle.ynv_read.specs.Parse.{parse_outcome}

-- what reading the input into a strip of n words comes to: there are no graphics, and an input above 65,536 bytes is refused before anything else
unfoldable pub cell_outcome : List ℕ → ℕ → Outcome Parsed
cell_outcome input n = cond (leb (length input) 65536) (parse_outcome input [] n) (refused 4 0)

-- the counts of a cell
unfoldable pub counts_text : Parsed → List ℕ
counts_text p =
    cat
    (named (ascii " polys ") p.polys
    ∷ named (ascii " portals ") p.portals
    ∷ named (ascii " points ") p.points
    ∷ named (ascii " sectors ") p.sectors
    ∷ [])

unfoldable pub accepted_text : ℕ → Parsed → List ℕ
accepted_text area p = cat (named (ascii "cell ") area ∷ counts_text p ∷ ascii "\n" ∷ [])

unfoldable pub refused_text : ℕ → ℕ → List ℕ
refused_text number place = cat (named (ascii "refused ") number ∷ named (ascii " ") place ∷ ascii "\n" ∷ [])

-- the area id is word 2 of a strip
abbrev pub cell_text : Outcome Parsed → List ℕ
cell_text (done p words) = accepted_text (get_or words 2 0) p
cell_text (refused number place) = refused_text number place
