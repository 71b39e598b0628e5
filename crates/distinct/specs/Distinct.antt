-- Lists in which each number stands once, in the order in which the numbers were first met: what a table of vertices or of areas holds.
-- Definitions only.
use Rattle.std.specs.Prelude.{ℕ, suc, Bool, cond, List, [], ◌∷◌, ◌++◌, length, ltb, eqb}

-- the index of the first x of l, or l's length where there is none
unfoldable pub index_of : List ℕ → ℕ → ℕ
index_of [] x = 0
index_of (y ∷ l) x = cond (eqb y x) 0 (suc (index_of l x))

-- whether x stands in l
abbrev pub is_in : List ℕ → ℕ → Bool
is_in l x = ltb (index_of l x) (length l)

-- l with x as its last, unless x stands in it already
unfoldable pub with_new : List ℕ → ℕ → List ℕ
with_new l x = cond (is_in l x) l (l ++ (x ∷ []))

-- the distinct numbers of xs in the order of their first appearance, after those of l
unfoldable pub distinct_from : List ℕ → List ℕ → List ℕ
distinct_from l [] = l
distinct_from l (x ∷ xs) = distinct_from (with_new l x) xs
