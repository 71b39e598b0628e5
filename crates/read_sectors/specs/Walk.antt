-- The walk as a function of the visits left: what it finds. Definitions only.
use Rattle.std.specs.Prelude.{ℕ, zero, suc, Bool, true, false, List, [], ◌∷◌, ◌++◌}
use Rattle.resource.specs.Section.{good, resolved}
use Rattle.read_grammar.specs.Trees.{subs_to}
use Rattle.read_sectors.specs.Sector.{points_of, good_data}
use Rattle.fields.specs.Sizes.{sector_size}

-- the visits left and the points in order, each its bytes; or the number of the refusal
pub data Walked : Type 0 where
  done : ℕ → List (List ℕ) → Walked
  refused : ℕ → Walked

-- points found before what follows
abbrev pub also : List (List ℕ) → Walked → Walked
also ps (done l qs) = done l (ps ++ qs)
also ps (refused number) = refused number

-- a sector's own refusals, in their order: 32 it isn't good, 34 its data or points aren't
abbrev pub checked : Bool → Bool → Walked → Walked
checked false b w = refused 32
checked true false w = refused 34
checked true true w = w

-- the bytes of the sector at an address
unfoldable pub sector_at : (system graphics : List ℕ) → ℕ → List ℕ
sector_at system graphics va = resolved system graphics va sector_size

-- With so many visits left, over the addresses of sectors in order: each spends a visit, 33 where none is left, and its subs 3, 2, 1, 0 come before
-- what follows it.
unfoldable pub walk : (system graphics : List ℕ) → ℕ → List ℕ → Walked
walk system graphics zero [] = done zero []
walk system graphics zero (va ∷ vas) = refused 33
walk system graphics (suc n) [] = done (suc n) []
walk system graphics (suc n) (va ∷ vas) =
    checked (good system graphics va sector_size) (good_data system graphics (sector_at system graphics va))
    (also (points_of system graphics (sector_at system graphics va)) (walk system graphics n (subs_to (sector_at system graphics va) 4 ++ vas)))
