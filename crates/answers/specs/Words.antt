-- The convention of the C entries: the number that is returned, and the words that stand for an answer. Definitions only.
use Rattle.std.specs.Prelude.{ℕ, List, [], ◌∷◌, get_or}
use Rattle.strip.specs.Outcome.{Paper, refusal, values}

-- a refusal's number, 0 where there is none
abbrev pub number_of : {A : Type 0} → Paper A → ℕ
number_of (refusal number place) = number
number_of (values a) = 0

-- the words of an answer: a refusal's place, or the words that its values make
abbrev pub answer_words : {A : Type 0} → (A → List ℕ) → Paper A → List ℕ
answer_words words (refusal number place) = place ∷ []
answer_words words (values a) = words a

-- eight words: the values in order, and zeros behind the last
abbrev pub filled : List ℕ → List ℕ
filled vs = get_or vs 0 0 ∷ get_or vs 1 0 ∷ get_or vs 2 0 ∷ get_or vs 3 0 ∷ get_or vs 4 0 ∷ get_or vs 5 0 ∷ get_or vs 6 0 ∷ get_or vs 7 0 ∷ []
