-- From what `check_cell` promises to what a call knows then: its strip's cell, whatever it decides of that cell, and one refusal for all calls. Assumes nothing.
use Prim.Native.Nat.{ℕ}
use mathlib.Core.Path.{◌≡◌, refl, ap, sym}
use mathlib.Core.Bool.{Bool, true, false, cond}
use mathlib.Core.List.{List}
use native.Mathlib.Omega.{arith}
use Rattle.strip.specs.Reasons.{reason_number}
use Rattle.std.specs.Prelude.{Result, Ok, Err}
use Rattle.strip.specs.Cell.{Cell}
use Rattle.strip.specs.Reading.{head_at}
use Rattle.strip.specs.Box.{finite_box}
use Rattle.strip.specs.Scan.{Scanned, ok, fault, scan}
use Rattle.strip.specs.Laid.{cell_at}
use Rattle.strip.specs.Outcome.{Outcome, refused, values, shown, refusal_of, paper}
use Rattle.strip.specs.Check.{on_cell}
use Rattle.strip.specs.Checked.{counts_of}
pub use Rattle.strip_parts.specs.BoxedCell.{Boxed}
use Rattle.strip_parts.specs.Boxed.{on_box, box_outcome}
use Rattle.strip_parts.specs.BoxedCell.{cell_outcome}
use Rattle.strip.specs.declared.Counts.{Counts}
use Rattle.strip.specs.declared.Refusal.{Refusal}
use Rattle.strip.proofs.Laid.{Well, well_cell, cell_is, counts_back}

module _ (s : List ℕ) where
  -- a well-formed strip with a finite box is taken, with its counts
  pub takes : {n : Counts} → Well s n → finite_box (head_at s 0) ≡ true → values n ≡ shown (cell_outcome s)
  takes {n} w b = rw (w.is, b) (ap values (sym (counts_back s n)))

  boxed_on : (n : Counts) (d : Scanned) → scan s ≡ d → values n ≡ shown (on_cell (on_box counts_of) d) → Boxed s n
  boxed_on n (fault number place) e k = let z : ◌≡◌ {A = ℕ} 0 1 = cc in absurd (omega arith)
  boxed_on n (ok c) e k = by (finite_box c.head) refl k
    where
      by : (t : Bool) → finite_box c.head ≡ t → values n ≡ shown (cond t (counts_of c) (refused 10 0)) → Boxed s n
      by false b h = let z : ◌≡◌ {A = ℕ} 0 1 = cc in absurd (omega arith)
      by true b h =
          let w : Well s n = well_cell s c e n (cc h) in
          record { formed = w; finite_box_is = rw (cell_is s w c e) at b }

  -- the answer's promise, and which case it is
  pub boxed : (n : Counts) (r : Result Counts Refusal) → paper r ≡ shown (cell_outcome s) → r ≡ Ok n → Boxed s n
  boxed n r k e = boxed_on n (scan s) refl (rw e at k)

  -- then any call decides what it decides of the cell
  pub on_box_lem : {A : Type 0} (f : Cell → Outcome A) {n : Counts} → Boxed s n → box_outcome f s ≡ f (cell_at s n)
  on_box_lem f b = rw (b.formed.is, b.finite_box_is)

  not_on : {A : Type 0} (f : Cell → Outcome A) (q : Refusal) (d : Scanned) → refusal_of q ≡ shown (on_cell (on_box counts_of) d) → on_cell (on_box f) d ≡ refused (reason_number q.reason) q.place
  not_on f q (fault number place) k = cc
  not_on {A} f q (ok c) k = by (finite_box c.head) k
    where
      by : (t : Bool) → refusal_of q ≡ shown (cond t (counts_of c) (refused 10 0)) → cond t (f c) (refused 10 0) ≡ refused (reason_number q.reason) q.place
      by true h = let z : ◌≡◌ {A = ℕ} 0 1 = cc in absurd (omega arith)
      by false h = cc

  -- and what is refused is refused by every call
  pub not_boxed : {A : Type 0} (f : Cell → Outcome A) (q : Refusal) (r : Result Counts Refusal) → paper r ≡ shown (cell_outcome s) → r ≡ Err q → box_outcome f s ≡ refused (reason_number q.reason) q.place
  not_boxed f q r k e = not_on f q (scan s) (rw e at k)
