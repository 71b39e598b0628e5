-- What the checks 3 and 10 make of a strip: every call then says what it has to say of the strip's cell, or refuses alike. Assumes nothing.
use Prim.Native.Nat.{ℕ, ◌<◌}
use mathlib.Core.Path.{◌≡◌, refl, ◌∙◌}
use mathlib.Core.Logic.{inl, inr, ⊎_elim, ◌↔◌}
use mathlib.Core.Bool.{Bool, true, false, cond}
use mathlib.Core.List.{List, []}
use native.Mathlib.Omega.{arith}
use Rattle.strip.specs.Cell.{Cell}
use Rattle.strip.specs.Box.{finite_box}
use Rattle.strip.specs.Scan.{Scanned, ok, fault, scan}
use Rattle.strip.specs.Outcome.{refused, done, refusal, values, shown}
use Rattle.strip.specs.Check.{on_cell}
use Rattle.strip_parts.specs.Boxed.{on_box, checked}
use Rattle.picking.specs.Answers.{OnCell, ThreeOrTen}
use Rattle.strip.proofs.Faults.{scan_fault}
use Rattle.strip.proofs.Faults as Faults

module _ (strip : List ℕ) where
  -- whatever a call has to say of the cell
  module _ {A : Type 0} (f : Cell → A) where
    pub says_value : (a : A) → (shown (checked f strip) ≡ values a) ↔ OnCell strip true (λ c. f c ≡ a)
    says_value a = (on (scan strip) refl, λ (c, e, b, g). rw (e, b, g))
      where
        on : (d : Scanned) → scan strip ≡ d → shown (on_cell (on_box (λ c. done (f c) [])) d) ≡ values a → OnCell strip true (λ c. f c ≡ a)
        on (fault number place) e h = let z : ◌≡◌ {A = ℕ} 0 1 = cc in absurd (omega arith)
        on (ok c) e h = by (finite_box c.head) refl h
          where
            by : (t : Bool) → finite_box c.head ≡ t → shown (cond t (done (f c) []) (refused 10 0)) ≡ values a → OnCell strip true (λ c. f c ≡ a)
            by true b g = (c, e, b, cc)
            by false b g = let z : ◌≡◌ {A = ℕ} 0 1 = cc in absurd (omega arith)

    pub says_refusal : (number place : ℕ) → (shown (checked f strip) ≡ refusal number place) ↔ ThreeOrTen strip number place
    says_refusal number place = (on (scan strip) refl, back)
      where
        on : (d : Scanned) → scan strip ≡ d → shown (on_cell (on_box (λ c. done (f c) [])) d) ≡ refusal number place → ThreeOrTen strip number place
        on (fault n p) e h = let k : fault n p ≡ fault number place = cc in inl ((scan_fault strip number place).0 (e ∙ k))
        on (ok c) e h = by (finite_box c.head) refl h
          where
            by : (t : Bool) → finite_box c.head ≡ t → shown (cond t (done (f c) []) (refused 10 0)) ≡ refusal number place → ThreeOrTen strip number place
            by true b g = let z : ◌≡◌ {A = ℕ} 0 1 = cc in absurd (omega arith)
            by false b g = inr (cc, cc, (c, e, b, tt))

        back : ThreeOrTen strip number place → shown (checked f strip) ≡ refusal number place
        back (inl h) = rw ((scan_fault strip number place).1 h)
        back (inr (n, p, (c, e, b, u))) = rw (n, p, e, b)

    -- 0 is answered for what is accepted alone
    pub refused_above_zero : (number place : ℕ) → shown (checked f strip) ≡ refusal number place → 0 < number
    refused_above_zero number place e = ⊎_elim Faults.refused_above_zero (λ ten. omega (arith, ten.0)) ((says_refusal number place).0 e)
