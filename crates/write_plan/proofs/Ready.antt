-- From what `plan` promises to what the writer needs: a plan without a refusal is ready for the pages, and any other is the call's refusal.
-- Assumes nothing.
use Prim.Native.Nat.{ℕ}
use native.Mathlib.Omega.{arith}
use mathlib.Core.Path.{◌≡◌, refl, ap, sym, ◌∙◌}
use mathlib.Core.Bool.{false}
use mathlib.Core.List.{List}
use lib.ListN.{length}
use lib.Dec.{ltb}
use borrow.Author.Tests.{le-ltb}
use Rattle.std.specs.Prelude.{Result, Ok, Err}
use Rattle.strip.specs.Reasons.{reason_number}
use Rattle.strip.specs.Cell.{Cell}
use Rattle.strip.specs.Outcome.{Outcome}
use Rattle.strip.specs.declared.Refusal.{Refusal}
use Rattle.strip.specs.Scan.{Scanned, ok, fault, scan}
use Rattle.write_pages.specs.Pages.{pages}
use Rattle.write_pages.specs.Checks.{Verdict, fine, refused, fault_if, at, cell_verdict, on_verdict, write_outcome}
use Rattle.write_pages.proofs.Accepted.{accepted}
use Rattle.write_pages.proofs.Firsts.{at_none}
use Rattle.write_decide.specs.Decide.{before_leaves, decision_then}
use Rattle.write_polygon_checks.specs.Steps.{says}
use Rattle.write_decide.specs.declared.Decision.{Decision}
use Rattle.strip.proofs.Laid.{Well, well_cell}
use Rattle.write_plan.specs.Plan.{after_polygon_checks, Planned}
use Rattle.strip.specs.Laid.{cell_at}
use Rattle.write_plan.specs.Ready.{Ready}
use Rattle.write_plan.proofs.Verdicts.{whole_verdict, scanned_cell}

-- 2, where the pages are c's
abbrev short : ℕ → Cell → Verdict
short out c = at 0 (fault_if (ltb out (length (pages c))) 2) fine

module _ (s w w' : List ℕ) (r : Result Decision Refusal) where
  -- the cell's verdict is what the answer says, and then 2
  said : (out : ℕ) → Planned s w w' r → (c : Cell) → scan s ≡ ok c → cell_verdict (length s) (length w) out c ≡ decision_then r (short out c)
  said out P c e = whole_verdict (length s) (length w) out c ∙ sym (rw e at (P.verdict (short out c)))

  -- ---- no refusal

  formed : Planned s w w' r → (d : Decision) → r ≡ Ok d → Well s d.counts
  formed P d z =
      let f = scanned_cell s r (λ c. before_leaves (length s) (length w) (after_polygon_checks fine c) c) (P.verdict fine) d z in
      well_cell s f.0 f.1 d.counts (P.counts_are d z f.0 f.1)

  pub verdict_of : (out : ℕ) → Planned s w w' r → (d : Decision) → r ≡ Ok d
      → cell_verdict (length s) (length w) out (cell_at s d.counts) ≡ at 0 (fault_if (ltb out (length (pages (cell_at s d.counts)))) 2) fine
  verdict_of out P d z = said out P _ (formed P d z).is ∙ ap (λ (v : Result Decision Refusal). says v (short out (cell_at s d.counts))) z

  pub ready : Planned s w w' r → (d : Decision) → r ≡ Ok d → Ready s w' d
  ready P d z =
      let c = cell_at s d.counts in
      let n : ℕ = length (pages c) in
      let enough : ltb n n ≡ false = le-ltb n n (omega arith) in
      let none : short n c ≡ fine = rw enough (at_none 0 0 fine refl) in
      let a = (accepted (length s) (length w) n c).0 (verdict_of n P d z ∙ none) in
      record {
        scanned = (formed P d z).is;
        accepted = a.1;
        tabled = P.tabled d z c (formed P d z).is;
        held = P.held d z;
        length_is = (formed P d z).length_is;
        long = (formed P d z).long;
        room = omega (arith, a.0, P.long);
      }

  -- ---- a refusal, whatever the answer's values and the lent output

  pub refused_so : {A : Type 0} (values : Cell → A) (out : ℕ) → Planned s w w' r → (q : Refusal) → r ≡ Err q
      → write_outcome values s (length w) out ≡ Outcome.refused (reason_number q.reason) q.place
  refused_so {A} values out P q bad = by (scan s) refl
    where
      by : (x : Scanned) → scan s ≡ x → write_outcome values s (length w) out ≡ Outcome.refused (reason_number q.reason) q.place
      by (ok c) e = rw (e, said out P c e, bad)
      by (fault n p) e =
          let same : refused n p ≡ refused (reason_number q.reason) q.place = sym (rw (e, bad) at (P.verdict fine)) in
          let none : Outcome A = Outcome.refused 0 0 in
          rw e (ap (λ (v : Verdict). on_verdict v none) same)
