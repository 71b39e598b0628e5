-- What each check of a reading says when it is passed, and when it passes. Assumes nothing.
use Prim.Native.Nat.{ℕ, zero, suc, ◌*◌, ◌<◌}
use native.Mathlib.Nat.{mul-zero, mul-suc}
use native.Mathlib.Omega.{arith}
use mathlib.Core.Path.{◌≡◌, refl, ap}
use mathlib.Core.Bool.{Bool, true, false}
use mathlib.Core.List.{List}
use lib.ListN.{length}
use Rattle.fields.specs.Bytes.{cut}
use Rattle.resource.specs.Section.{resolved}
use Rattle.strip.specs.Outcome.{Paper, values, refusal}
use Rattle.strip.specs.Cell.{Cell}
use Rattle.read_grammar.specs.Parts.{Good, Array, none, some}
use Rattle.read_lists.specs.Lists.{readable_at}
use Rattle.read_lists.proofs.Lists.{whole_of, length_whole}
use Rattle.read_sectors.specs.Walk.{Walked}
use Rattle.read_sectors.specs.Walk as Walk
use Rattle.read_decide.specs.Reading.{Reading, made, refused, check, on_paper, on_walk}

refused_made : {number place k : ℕ} {c : Cell} → refused number place ≡ made c k → ⊥
refused_made e = let z : ◌≡◌ {A = ℕ} 0 1 = cc in omega arith

pub check_in : (b : Bool) (number : ℕ) (rest : Reading) {c : Cell} {k : ℕ} → check b number rest ≡ made c k → (b ≡ true) × (rest ≡ made c k)
check_in true number rest e = (refl, e)
check_in false number rest e = absurd (refused_made e)

pub paper_in : (a : Paper ℕ) (rest : Reading) {c : Cell} {k : ℕ} → on_paper a rest ≡ made c k → (n : ℕ) × (a ≡ values n) × (rest ≡ made c k)
paper_in (values n) rest e = (n, refl, e)
paper_in (refusal number place) rest e = absurd (refused_made e)

pub walk_in : (w : Walked) (rest : List (List ℕ) → ℕ → Reading) {c : Cell} {k : ℕ} → on_walk w rest ≡ made c k
    → (left : ℕ) × (points : List (List ℕ)) × (w ≡ Walk.done left points) × (on_walk (Walk.done left points) rest ≡ made c k)
walk_in (Walk.done left points) rest e = (left, points, refl, e)
walk_in (Walk.refused number) rest e = absurd (refused_made e)

-- ---- good parts

module _ (S G : List ℕ) where
  pub good_in : (va n : ℕ) → 0 < n → readable_at S G va n ≡ true → Good S G va n (resolved S G va n)
  good_in va n h e = record { some = h; there = refl; length_is = length_whole S G va n e }

  pub good_out : (va n : ℕ) {b : List ℕ} → Good S G va n b → readable_at S G va n ≡ true
  good_out va n g = whole_of S G va n (omega (arith, ap length g.there, g.length_is))

  pub array_in : (w va n : ℕ) → readable_at S G va (w * n) ≡ true → 0 < w → Array S G w va n (cut w n (resolved S G va (w * n)))
  unfolding cut
  array_in w va zero e h = none
  array_in w va (suc n) e h = some (good_in va (w * suc n) (omega (arith, mul-suc w n)) e)

  pub array_out : {w va n : ℕ} {xs : List (List ℕ)} → Array S G w va n xs → readable_at S G va (w * n) ≡ true
  array_out {w} {va} none = whole_of S G va (w * 0) (omega (arith, mul-zero w))
  array_out {w} {va} (some {n = n} g) = good_out va (w * suc n) g
