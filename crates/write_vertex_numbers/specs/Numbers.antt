-- The numbers of a whole list of triples: what an answer says, and what lent words then hold. Definitions only.
use Rattle.std.specs.Prelude.{ℕ, ◌+◌, ◌*◌, ◌/◌, min, cond, ◌≡◌, List, [], length, take, drop, leb, Option, Some, None, Result, Ok, Err}
use Rattle.strip.specs.Outcome.{Paper, refusal, values, paper}
use Rattle.distinct.specs.Distinct.{distinct_from}
use Rattle.distinct.specs.Numbers.{excess_from, numbers_from}
use Rattle.write_vertices.specs.Table.{met}
use Rattle.strip.specs.declared.Reason.TheVariants.{TooLittleWork}
use Rattle.strip.specs.declared.Refusal.{Refusal}

-- the triples of a list of words, two to a triple; a last word alone is none
abbrev pub triples_of : List ℕ → List ℕ
triples_of ws = met ws 0 (length ws / 2)

-- how many distinct triples there are, or 14 at the place of a 65,537th
abbrev pub all_of : Option ℕ → ℕ → Paper ℕ
all_of None n = values n
all_of (Some i) n = refusal 14 i

abbrev pub answer_all : List ℕ → Paper ℕ
answer_all xs = all_of (excess_from 65536 [] 0 xs) (length (distinct_from [] xs))

-- the same by one who has so many words of work, or 1: four to a triple are enough
abbrev pub answer_with : ℕ → List ℕ → Paper ℕ
answer_with words xs = cond (leb (length xs) (words / 4)) (answer_all xs) (refusal 1 0)

-- the answer r for the m triples xs, with the words from w to w': the m numbers first, and the table from m on
pub record InWork (xs : List ℕ) (m b : ℕ) (w w' : List ℕ) (r : Result ℕ Refusal) : Type 0 where
  pub answer : paper r ≡ answer_all xs
  pub numbered : (n : ℕ) → r ≡ Ok n → (met (drop m w') b n ≡ distinct_from [] xs) × (take m w' ≡ numbers_from [] xs)
  pub rest : drop (m + (b + 2 * m)) w' ≡ drop (m + (b + 2 * m)) w

-- the answer r for the triples xs, with the words from w to w': where there are enough, the numbers first, and behind them the table on
-- as many trees as there are triples, or 65536; where there are too few, nothing is changed
pub record NumberedAll (xs w w' : List ℕ) (r : Result ℕ Refusal) : Type 0 where
  pub answer : paper r ≡ answer_with (length w) xs
  pub numbers : (n : ℕ) → r ≡ Ok n → take (length xs) w' ≡ numbers_from [] xs
  pub vertices : (n : ℕ) → r ≡ Ok n → met (drop (length xs) w') (min (length xs) 65536) n ≡ distinct_from [] xs
  pub rest : drop (4 * length xs) w' ≡ drop (4 * length xs) w
  pub short : (q : Refusal) → r ≡ Err q → q.reason ≡ TooLittleWork → w' ≡ w
