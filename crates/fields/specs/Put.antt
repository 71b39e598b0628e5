-- A run of elements stored at a place. Definitions only.
use Rattle.std.specs.Prelude.{ℕ, zero, suc, List, [], ◌∷◌}
use Rattle.fields.specs.Bytes.{over}

-- xs with the elements bs stored from index at on, and as long as it was: one that would lie past the end is left out
unfoldable pub put : ℕ → List ℕ → List ℕ → List ℕ
unfolding over
put zero bs xs = over bs xs
put (suc at) bs [] = []
put (suc at) bs (x ∷ xs) = x ∷ put at bs xs
