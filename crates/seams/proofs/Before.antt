-- What request 5 changed: the count before is the count now and the halves that are left out since then, of every cell and, by its promise, of every
-- answer of the call. So no count grew, and exactly those of cells with such a half fell.
use Prim.Native.Nat.{ℕ, ◌+◌, ◌≤◌}
use mathlib.Core.Path.{◌≡◌, subst}
use mathlib.Core.Bool.{true}
use mathlib.Core.List.{List}
use mathlib.Core.Logic.{◌↔◌, ◌≢◌}
use native.Mathlib.Omega.{arith}
use Rattle.strip.specs.declared.Refusal.{Refusal}
use Rattle.std.specs.Prelude.{Result, Ok}
use Rattle.strip.specs.Cell.{Cell}
use Rattle.strip.specs.Scan.{ok, scan}
use Rattle.strip.specs.Outcome.{shown, paper}
use Rattle.touching.specs.Touch.{touch}
use Rattle.touching.specs.Before.{touch_by_number}
use Rattle.touching.proofs.Theorems.{touched_before}
use Rattle.seams.specs.Seams.{counted, half_count, seams, seam_outcome}
use Rattle.seams.specs.Before.{counted_by_number, seams_by_number, left_out, SomeHalf}
use Rattle.seams.proofs.Halves.{one_split, halves_split, some_half}
use Rattle.seams.proofs.Theorems.{counts}

module _ (c : Cell) where
  pub seams_before : seams_by_number c ≡ seams c + half_count (left_out c.head.area) c.polys
  unfolding counted counted_by_number left_out
  seams_before =
      let own = c.head.area in
      halves_split (counted_by_number own) (counted own) (left_out own) (λ h. one_split (touch_by_number own h.area) (touch own h.area) (touched_before own h.area)) c.polys

  pub seams_fewer : seams c ≤ seams_by_number c
  seams_fewer = omega (arith, seams_before)

  -- "the strips whose count changes are exactly those with a half that the old test took and the new one does not"
  pub seams_changed : (seams c ≢ seams_by_number c) ↔ SomeHalf (λ h. left_out c.head.area h ≡ true) c.polys
  seams_changed =
      let some = some_half (left_out c.head.area) c.polys in
      (λ f. some.0 (omega (arith, seams_before)), λ h. let k = some.1 h in omega (arith, seams_before))

-- of the call, by its promise
abbrev pub Changed : Cell → ℕ → Type 0
Changed c n = (n ≤ seams_by_number c) × ((n ≢ seams_by_number c) ↔ SomeHalf (λ h. left_out c.head.area h ≡ true) c.polys)

changed : (c : Cell) {n : ℕ} → seams c ≡ n → Changed c n
changed c e = subst (Changed c) e (seams_fewer c, seams_changed c)

module _ (s : List ℕ) (r : Result ℕ Refusal) (promise : paper r ≡ shown (seam_outcome s)) (n : ℕ) (counted-now : r ≡ Ok n) where
  pub count_before : (c : Cell) × (scan s ≡ ok c) × (seams_by_number c ≡ n + half_count (left_out c.head.area) c.polys)
  count_before = let (c, e, k) = counts s r promise n counted-now in (c, e, omega (arith, seams_before c))

  pub count_changed : (c : Cell) × (scan s ≡ ok c) × Changed c n
  count_changed = let (c, e, k) = counts s r promise n counted-now in (c, e, changed c k)
