-- What `parse_ynv` decides: the reading, and then whether the lent strip is long enough. Definitions only.
use Rattle.std.specs.Prelude.{ℕ, cond, List, leb, length}
use Rattle.strip.specs.Cell.{encode}
use Rattle.strip.specs.Outcome.{Outcome}
use Rattle.read_decide.specs.Reading.{Reading, made, refused, read_cell}
use Rattle.read_decide.specs.declared.Parsed.{Parsed}
use Rattle.read_decide.specs.Answer.{counts_of}

-- 2 comes last: a strip is long enough when it has at least as many words as the derived one
abbrev pub fitted : ℕ → Reading → Outcome Parsed
fitted n (made c sectors) = cond (leb (length (encode c)) n) (Outcome.done (counts_of c sectors) (encode c)) (Outcome.refused 2 0)
fitted n (refused number place) = Outcome.refused number place

-- what reading two sections into a strip of n words comes to
unfoldable pub parse_outcome : (system graphics : List ℕ) → ℕ → Outcome Parsed
parse_outcome system graphics n = fitted n (read_cell system graphics)
