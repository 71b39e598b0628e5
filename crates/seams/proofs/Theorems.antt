-- The seam count refuses with 3 only, exactly where the strip is badly formed, and otherwise counts the seams of the strip's cell.
use Prim.Native.Nat.{ℕ}
use mathlib.Core.Path.{◌≡◌, refl, sym, ap, ◌∙◌}
use mathlib.Core.List.{List}
use native.Mathlib.Omega.{arith}
use Rattle.strip.specs.declared.Refusal.{Refusal}
use Rattle.std.specs.Prelude.{Result, Ok}
use Rattle.strip.specs.Cell.{Cell}
use Rattle.strip.specs.Scan.{Scanned, ok, fault, scan}
use Rattle.strip.specs.Outcome.{refused, values, shown, paper}
use Rattle.strip.specs.Check.{on_cell}
use Rattle.strip.proofs.Faults.{Refused, scan_fault}
use Rattle.seams.specs.Seams.{seams, seamed, seam_outcome}

refused_on : (s : List ℕ) (number place : ℕ) (d : Scanned) → scan s ≡ d → on_cell seamed d ≡ refused number place → scan s ≡ fault number place
refused_on s number place (ok c) e h = let z : ◌≡◌ {A = ℕ} 0 1 = cc in absurd (omega arith)
refused_on s number place (fault n p) e h = let k : fault n p ≡ fault number place = cc in e ∙ k

pub refused_named : (s : List ℕ) (number place : ℕ) → seam_outcome s ≡ refused number place → Refused s number place
refused_named s number place h = (scan_fault s number place).0 (refused_on s number place (scan s) refl h)

-- of the call, by its promise: a count is that of the strip's cell
module _ (s : List ℕ) (r : Result ℕ Refusal) (promise : paper r ≡ shown (seam_outcome s)) where
  count_on : (n : ℕ) (d : Scanned) → scan s ≡ d → values n ≡ shown (on_cell seamed d) → (c : Cell) × (scan s ≡ ok c) × (seams c ≡ n)
  count_on n (ok c) e h = (c, e, cc)
  count_on n (fault number place) e h = let z : ◌≡◌ {A = ℕ} 0 1 = cc in absurd (omega arith)

  pub counts : (n : ℕ) → r ≡ Ok n → (c : Cell) × (scan s ≡ ok c) × (seams c ≡ n)
  counts n e = count_on n (scan s) refl (ap paper (sym e) ∙ promise)
