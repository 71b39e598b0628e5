-- The verdict of a cell is that of `plan`, and then 2; and there is a cell, where an answer has no refusal. Assumes nothing.
use Prim.Native.Nat.{ℕ, zero, suc}
use native.Mathlib.Omega.{arith}
use mathlib.Core.Path.{◌≡◌, refl}
use mathlib.Core.List.{List, [], ◌∷◌}
use lib.ListN.{length}
use lib.Dec.{ltb}
use Rattle.std.specs.Prelude.{Result, Ok}
use Rattle.strip.specs.declared.Refusal.{Refusal}
use Rattle.strip.specs.Cell.{Cell}
use Rattle.strip.specs.Scan.{Scanned, ok, fault, scan}
use Rattle.write_pages.specs.Pages.{links, pages}
use Rattle.write_pages.specs.Checks.{Verdict, fine, refused, fault_if, first_fault, at, cell_verdict}
use Rattle.write_decide.specs.Decide.{before_leaves, on_scan}
use Rattle.write_polygon_checks.specs.Steps.{says}
use Rattle.write_plan.specs.Plan.{after_polygon_checks}

last_apart : (a b e : ℕ) (v : Verdict) → at 0 (first_fault (a ∷ b ∷ e ∷ [])) v ≡ at 0 (first_fault (a ∷ b ∷ [])) (at 0 e v)
unfolding first_fault at
last_apart zero zero zero v = refl
last_apart zero zero (suc e) v = refl
last_apart zero (suc b) e v = refl
last_apart (suc a) b e v = refl

pub whole_verdict : (words work out : ℕ) (c : Cell)
    → cell_verdict words work out c ≡ before_leaves words work (after_polygon_checks (at 0 (fault_if (ltb out (length (pages c))) 2) fine) c) c
unfolding cell_verdict before_leaves after_polygon_checks
whole_verdict words work out c =
    rw (last_apart (fault_if (ltb 585 (length c.portals)) 19) (fault_if (ltb 8192 (length (links c))) 20) (fault_if (ltb out (length (pages c))) 2) fine)

-- an answer without a refusal is of a well-formed strip
pub scanned_cell : {A : Type 0} (s : List ℕ) (r : Result A Refusal) (f : Cell → Verdict) → says r fine ≡ on_scan f (scan s) → (a : A) → r ≡ Ok a → (c : Cell) × (scan s ≡ ok c)
scanned_cell s r f said a z = by (scan s) refl
  where
    by : (x : Scanned) → scan s ≡ x → (c : Cell) × (scan s ≡ ok c)
    by (ok c) e = (c, e)
    by (fault n p) e =
        let no : fine ≡ refused n p = rw (z, e) at said in
        let y : ◌≡◌ {A = ℕ} 0 1 = cc in absurd (omega arith)
