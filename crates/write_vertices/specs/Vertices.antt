-- The numbers of vertices, as equations on the list of the triples met so far: equal triples share a vertex, numbered as first met.
-- A triple of shorts is the one number x + 2^16 y + 2^32 z. Definitions only.
use Rattle.std.specs.Prelude.{ℕ, cond, List, length, leb, Option, Some, None}
use Rattle.strip.specs.Outcome.{Paper, refusal, values}
use Rattle.distinct.specs.Distinct.{index_of, with_new}
use Rattle.write_vertices.specs.declared.Numbered.{Numbered}

-- what an answer says to a caller that has come to the polygon `place`: the number and the count of triples after it, or 14
abbrev pub paper : Option Numbered → ℕ → Paper (ℕ × ℕ)
paper (Some v) place = values (v.number, v.count)
paper None place = refusal 14 place

-- the number of the first equal triple, which is the next number where there is none, with the count of triples after it;
-- or 14 at the caller's polygon, where x would be a 65,537th
abbrev pub number_of : List ℕ → ℕ → ℕ → Paper (ℕ × ℕ)
number_of ts x place = cond (leb (length (with_new ts x)) 65536) (values (index_of ts x, length (with_new ts x))) (refusal 14 place)

-- how many triples there are after that answer, when there were n
abbrev pub count_after : Option Numbered → ℕ → ℕ
count_after (Some v) n = v.count
count_after None n = n
