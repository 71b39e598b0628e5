-- The reader's theorems, on what `parse_ynv` decides. It accepts exactly when the grammar derives a strip that fits, with that strip and with
-- as many sectors as the grammar's tree has (`accepted_exactly`); 2 comes exactly when the derived strip is longer than the lent one
-- (`too_short_exactly`); with any other refusal nothing is derived, and the other way round (`refused_none`, `none_refused`); each refusal is one that is named for reading, with its
-- place (`refused_named`). Assumes nothing.
use Prim.Native.Nat.{ℕ, ◌≤◌, ◌<◌}
use native.Mathlib.Omega.{arith}
use mathlib.Core.Path.{◌≡◌, refl, sym, ap, subst, ◌∙◌}
use mathlib.Core.Bool.{Bool, true, false, cond}
use mathlib.Core.List.{List}
use mathlib.Core.Logic.{◌↔◌, ◌⊎◌, inl, inr, ⊎_elim}
use lib.Dec.{leb}
use lib.ListN.{length}
use borrow.Author.Tests.{leb-true, leb-false, le-leb, lt-leb}
use Rattle.fields.specs.Rows.{pack}
use Rattle.strip.specs.Cell.{Cell, vec_words, head_words, encode, each}
use Rattle.strip.proofs.Plain.{encode_plain, length_encode}
use Rattle.strip.specs.Scan.{Scanned, scan}
use Rattle.strip.specs.Outcome as Outcome
use Rattle.read_grammar.specs.Derives.{Derives}
use Rattle.read_grammar.specs.Formed.{Bytes}
use Rattle.read_grammar.specs.Vehicle.{vehicle_pages, vehicle_cell, vehicle_strip}
use Rattle.read_grammar.proofs.Formed.{derived_scans}
use Rattle.read_grammar.proofs.Examples.{p12_makes}
use Rattle.read_decide.specs.declared.Parsed.{Parsed}
use Rattle.read_decide.specs.Reading.{Reading, made, refused, polygons, read_cell}
use Rattle.read_decide.specs.Answer.{counts_of}
use Rattle.ynv_read.specs.Parse.{fitted, parse_outcome}
use Rattle.ynv_read.specs.Theorems.{Named, Accepts}
use Rattle.ynv_read.proofs.Exact.{accepted_made, made_accepted}
use Rattle.ynv_read.proofs.Named.{AsNamed, named, late}

-- what a reading and a strip of n words come to
fitted_done : {n : ℕ} (r : Reading) {p : Parsed} {w : List ℕ} → fitted n r ≡ Outcome.done p w
    → (c : Cell) × (k : ℕ) × (r ≡ made c k) × (length (encode c) ≤ n) × (p ≡ counts_of c k) × (w ≡ encode c)
fitted_done {n} (refused number place) e = let z : ◌≡◌ {A = ℕ} 0 1 = cc in absurd (omega arith)
fitted_done {n} (made c k) {p} {w} e = by (leb (length (encode c)) n) refl e
  where
    by : (b : Bool) → leb (length (encode c)) n ≡ b → cond b (Outcome.done (counts_of c k) (encode c)) (Outcome.refused 2 0) ≡ Outcome.done p w
        → (d : Cell) × (j : ℕ) × (made c k ≡ made d j) × (length (encode d) ≤ n) × (p ≡ counts_of d j) × (w ≡ encode d)
    by true h f = (c, k, refl, leb-true (length (encode c)) n h, cc, cc)
    by false h f = let z : ◌≡◌ {A = ℕ} 0 1 = cc in absurd (omega arith)

fitted_refused : {n : ℕ} (r : Reading) {number place : ℕ} → fitted n r ≡ Outcome.refused number place
    → (r ≡ refused number place) ⊎ ((c : Cell) × (k : ℕ) × (r ≡ made c k) × (n < length (encode c)) × (number ≡ 2) × (place ≡ 0))
fitted_refused {n} (refused number place) e = inl cc
fitted_refused {n} (made c k) {number} {place} e = by (leb (length (encode c)) n) refl e
  where
    by : (b : Bool) → leb (length (encode c)) n ≡ b → cond b (Outcome.done (counts_of c k) (encode c)) (Outcome.refused 2 0) ≡ Outcome.refused number place
        → (made c k ≡ refused number place) ⊎ ((d : Cell) × (j : ℕ) × (made c k ≡ made d j) × (n < length (encode d)) × (number ≡ 2) × (place ≡ 0))
    by true h f = let z : ◌≡◌ {A = ℕ} 0 1 = cc in absurd (omega arith)
    by false h f = inr (c, k, refl, leb-false (length (encode c)) n h, cc, cc)

module _ (S G : List ℕ) (n : ℕ) where
  -- ---- accepted

  pub accepted_exactly : (p : Parsed) (w : List ℕ) → (parse_outcome S G n ≡ Outcome.done p w) ↔ Accepts S G n p w
  unfolding parse_outcome
  accepted_exactly p w = (there, back)
    where
      there : parse_outcome S G n ≡ Outcome.done p w → Accepts S G n p w
      there e =
          let (c, k, r, fits, counts, strip) = fitted_done (read_cell S G) e in
          record { derived = record { sectors = k; cell = c; makes = accepted_made S G r; strip = strip }; fits = rw strip fits; counts_are = counts }

      back : Accepts S G n p w → parse_outcome S G n ≡ Outcome.done p w
      back a =
          let d = a.derived in
          let room : length (encode d.cell) ≤ n = rw d.strip at a.fits in
          rw (made_accepted S G d.makes, le-leb (length (encode d.cell)) n room, a.counts_are, d.strip)

  -- ---- refused

  pub too_short_exactly : (parse_outcome S G n ≡ Outcome.refused 2 0) ↔ ((w : List ℕ) × Derives S G w × (n < length w))
  unfolding parse_outcome
  too_short_exactly = (there, back)
    where
      there : parse_outcome S G n ≡ Outcome.refused 2 0 → (w : List ℕ) × Derives S G w × (n < length w)
      there e =
          ⊎_elim
          (λ r. absurd (let m : 30 ≤ 2 = late (subst (AsNamed (length (polygons S G))) r (named S G)) in omega arith))
          (λ (c, k, r, long, a, b). (encode c, record { sectors = k; cell = c; makes = accepted_made S G r; strip = refl }, long))
          (fitted_refused (read_cell S G) e)

      back : (w : List ℕ) × Derives S G w × (n < length w) → parse_outcome S G n ≡ Outcome.refused 2 0
      back (w, d, long) =
          let room : n < length (encode d.cell) = rw d.strip at long in
          rw (made_accepted S G d.makes, lt-leb (length (encode d.cell)) n room)

  -- with any other refusal nothing is derived, whatever strip is lent
  pub refused_none : {number place : ℕ} → parse_outcome S G n ≡ Outcome.refused number place → (number ≡ 2 → ⊥) → (w : List ℕ) → Derives S G w → ⊥
  unfolding parse_outcome
  refused_none {number} {place} e other w d =
      ⊎_elim
      (λ r. let z : ◌≡◌ {A = ℕ} 0 1 = let f : made d.cell d.sectors ≡ refused number place = sym (made_accepted S G d.makes) ∙ r in cc in omega arith)
      (λ (c, k, r, long, two, b). other two)
      (fitted_refused (read_cell S G) e)

  -- and where nothing is derived there is such a refusal
  pub none_refused : ((w : List ℕ) → Derives S G w → ⊥) → (number : ℕ) × (place : ℕ) × (parse_outcome S G n ≡ Outcome.refused number place) × Named (length (polygons S G)) number place
  unfolding parse_outcome
  none_refused nothing = by (read_cell S G) refl
    where
      by : (r : Reading) → read_cell S G ≡ r → (number : ℕ) × (place : ℕ) × (fitted n (read_cell S G) ≡ Outcome.refused number place) × Named (length (polygons S G)) number place
      by (made c k) e = absurd (nothing (encode c) (record { sectors = k; cell = c; makes = accepted_made S G e; strip = refl }))
      by (refused number place) e = (number, place, ap (fitted n) e, subst (AsNamed (length (polygons S G))) e (named S G))

  -- a refusal has a number and a place of its own
  pub refused_named : {number place : ℕ} → parse_outcome S G n ≡ Outcome.refused number place → ((number ≡ 2) × (place ≡ 0)) ⊎ Named (length (polygons S G)) number place
  unfolding parse_outcome
  refused_named e =
      ⊎_elim (λ r. inr (subst (AsNamed (length (polygons S G))) r (named S G))) (λ (c, k, r, long, a, b). inl (a, b)) (fitted_refused (read_cell S G) e)

  -- ---- what is read

  -- a strip that was read is well formed, and stands for a cell with the parts that the answer counts
  pub read_scans : Bytes S → Bytes G → {p : Parsed} {w : List ℕ} → parse_outcome S G n ≡ Outcome.done p w → (c : Cell) × (scan w ≡ Scanned.ok c) × (p ≡ counts_of c p.sectors)
  read_scans sb gb {p} {w} e =
      let a = (accepted_exactly p w).0 e in
      let d = a.derived in
      let sectors : p.sectors ≡ d.sectors = ap (λ (x : Parsed). x.sectors) a.counts_are in
      (d.cell, derived_scans S G sb gb d, a.counts_are ∙ ap (counts_of d.cell) (sym sectors))

-- P12's vehicle is read, into any strip of 15 words or more, whatever the graphics section
pub p12_read : (G : List ℕ) (n : ℕ) → 15 ≤ n
    → parse_outcome vehicle_pages G n ≡ Outcome.done (record { words = 15; polys = 0; portals = 0; points = 0; sectors = 1 }) vehicle_strip
unfolding vehicle_cell head_words vec_words each pack
p12_read G n h =
    let words : length (encode vehicle_cell) ≡ 15 = length_encode vehicle_cell in
    (accepted_exactly vehicle_pages G n (record { words = 15; polys = 0; portals = 0; points = 0; sectors = 1 }) vehicle_strip).1
    (record { derived = record { sectors = 1; cell = vehicle_cell; makes = p12_makes G; strip = sym (encode_plain vehicle_cell) }; fits = h; counts_are = rw words })
