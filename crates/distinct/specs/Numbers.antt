-- Tables with a limit, and the numbers that a run of entries gets. Definitions only.
use Rattle.std.specs.Prelude.{ℕ, suc, cond, List, [], ◌∷◌, length, leb}
use Rattle.std.specs.declared.option.Option.{Option}
use Rattle.std.specs.declared.option.Option.TheVariants.{None, Some}
use Rattle.distinct.specs.Distinct.{index_of, with_new}

-- the same, but l itself where that would be longer than `most`
abbrev pub up_to : ℕ → List ℕ → ℕ → List ℕ
up_to most l x = cond (leb (length (with_new l x)) most) (with_new l x) l

-- the number that each of xs is given, where those of l have been met before
unfoldable pub numbers_from : List ℕ → List ℕ → List ℕ
numbers_from l [] = []
numbers_from l (x ∷ xs) = index_of l x ∷ numbers_from (with_new l x) xs

-- where in xs, which begins at i, the first stands that would make the list, which is l so far, longer than `most`, if any
unfoldable pub excess_from : ℕ → List ℕ → ℕ → List ℕ → Option ℕ
excess_from most l i [] = None
excess_from most l i (x ∷ xs) = cond (leb (length (with_new l x)) most) (excess_from most (with_new l x) (suc i) xs) (Some i)
