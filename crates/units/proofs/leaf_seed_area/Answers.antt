-- `units::leaf_seed_area` meets its contract: the table is the seeds over zeros.
use Prim.Native.Nat.{ℕ, zero, suc, ◌≤◌, ◌<◌}
use native.Mathlib.Nat.{not-suc-le-zero, le_of_suc-le-suc}
use native.Mathlib.Omega.{arith}
use mathlib.Core.Path.{◌≡◌, refl, ap}
use mathlib.Core.List.{List, [], ◌∷◌}
use lib.ListN.{length, get_or, get_or-replicate}
use borrow.Author.Tests.{lt-ltb, le-ltb}
use Rattle.fields.specs.Bytes.{over, zeros}
use Rattle.areas.specs.Areas.{seeded}
use Rattle.areas.specs.declared.Areas.{Areas}
use Rattle.areas.proofs.Seeds.{length_seeded}
use Rattle.units.proofs.leaf_seed_area.Goals as goal

-- an element of a list that is stored over n zeros
word_at : (bs : List ℕ) (n i : ℕ) → length bs ≤ n → i < n → get_or (over bs (zeros n)) i 0 ≡ get_or bs i 0
unfolding over
word_at [] n i h l = get_or-replicate n i 0 0 l
word_at (b ∷ bs) zero i h l = absurd (not-suc-le-zero h)
word_at (b ∷ bs) (suc n) zero h l = refl
word_at (b ∷ bs) (suc n) (suc i) h l = word_at bs n i (le_of_suc-le-suc h) (le_of_suc-le-suc l)

pub returns-then-i-lt32 : goal.returns-then-i-lt32
returns-then-i-lt32 c =
    let a = c.args in
    rw (c.seed_areas-t.ensures, lt-ltb a.i 32 c.if-i-lt32.true) (word_at (seeded a.own) 32 a.i (omega (arith, length_seeded a.own)) c.if-i-lt32.true)

pub overflow_cast-result : goal.overflow_cast-result
overflow_cast-result c = record { fits = omega (arith, ap (λ (t : Areas). t.len) c.seed_areas-t.ensures, length_seeded c.args.own) }

pub returns : goal.returns
returns c = rw (c.seed_areas-t.ensures, le-ltb c.args.i 32 c.if-i-lt32.false)
