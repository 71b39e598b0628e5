-- The two calls one after the other. Where the writer accepts (`saved`, by its own theorem), the lent pages as they are then (`behind_stays`) open again
-- (`opened`), and the strip that is read has what has to be kept (`returned`); and so do exactly as many of their bytes as the writer says, which is what
-- a file holds (`file_is`, `file_opened`, `file_returned`): for every strip of words, work, pages, graphics section and lent strip.
-- Assumes nothing.
use Prim.Native.Nat.{ℕ, ◌≤◌, ◌<◌}
use native.Mathlib.Omega.{arith}
use mathlib.Core.Path.{◌≡◌, refl, sym, ap, ◌∙◌}
use mathlib.Core.Bool.{Bool, true, false}
use mathlib.Core.List.{List, [], ◌∷◌, ◌++◌, map, append-nil}
use mathlib.Core.Logic.{◌⊎◌, inl, inr, ⊎_elim}
use lib.Dec.{leb}
use lib.ListN.{length, take, drop}
use lib.Seq.{take-append_seam}
use borrow.Author.Tests.{leb-true, leb-false}
use Rattle.strip.specs.Cell.{NavPortal, Cell, encode}
use Rattle.strip.specs.Fits.{Words, InRange}
use Rattle.strip.specs.Outcome.{Outcome, values, refusal, shown, left}
use Rattle.strip.specs.Outcome as Outcome
use Rattle.strip.proofs.Exact.{scan_exact}
use Rattle.read_grammar.specs.Polygons.{Each, none, more}
use Rattle.read_grammar.specs.Derives.{Derives}
use Rattle.read_decide.specs.declared.Parsed.{Parsed}
use Rattle.read_decide.specs.Answer.{counts_of}
use Rattle.ynv_read.proofs.Theorems.{accepted_exactly as read-exactly, too_short_exactly}
use Rattle.write_pages.specs.Preorder.{sector_count, preorder}
use Rattle.write_pages.specs.Pages.{bb_min, bb_size, sectors, pages}
use Rattle.write_pages.specs.Reread.{portal_again, point_again, reread}
use Rattle.write_pages.specs.Accepted.{Accepted}
use Rattle.ynv_write.specs.declared.Written.{Written}
use Rattle.ynv_write.specs.Theorems.{Accepts}
use Rattle.ynv_write.proofs.Theorems.{accepted_exactly}
use Rattle.readback.proofs.Whole.{makes}
use Rattle.readback.proofs.Kept.{reread_kept}
use Rattle.roundtrip.specs.RoundTrip.{saving, saved_pages, saved_file, with_pages, opening, opened_strip, Opened, KeptPortal, KeptPoint, Returned}
use Rattle.roundtrip.proofs.Formed.{reread_scans}

-- ---- portals and points of the cell that is read again

each_image : {A B : Type 0} (R : A → B → Type 0) (f : A → B) → ((a : A) → R a (f a)) → (l : List A) → Each R l (map f l)
each_image R f good [] = none
each_image R f good (a ∷ l) = more (good a) (each_image R f good l)

portals_kept : (c : Cell) → Each KeptPortal c.portals (reread c).portals
unfolding reread portal_again
portals_kept c = each_image KeptPortal (portal_again (bb_min c) (bb_size c)) one c.portals
  where
    one : (p : NavPortal) → KeptPortal p (portal_again (bb_min c) (bb_size c) p)
    one p = record {
      kind = refl;
      angle = refl;
      flags_unk = refl;
      poly_from = refl;
      poly_to = refl;
      area_from = refl;
      area_to = refl;
      area_unk = refl;
    }

points_kept : (c : Cell) → Each KeptPoint (preorder (sectors c)) (reread c).points
unfolding reread point_again
points_kept c = each_image KeptPoint (point_again (bb_min c) (bb_size c)) (λ t. record { angle = refl; kind = refl }) (preorder (sectors c))

head_kept : (c : Cell) → (reread c).head ≡ c.head
unfolding reread
head_kept c = refl

-- ---- reading the pages of an accepted cell, with any tail behind them

module _ (c : Cell) (range : InRange c) (acc : Accepted c) (tail graphics lent : List ℕ) where
  abbrev S : List ℕ
  S = pages c ++ tail

  abbrev P : Parsed
  P = counts_of (reread c) (sector_count (sectors c))

  derived : Derives S graphics (encode (reread c))
  derived = record { sectors = sector_count (sectors c); cell = reread c; makes = makes c tail graphics range acc; strip = refl }

  pub enough : length (encode (reread c)) ≤ length lent → opening S graphics lent ≡ Outcome.done P (encode (reread c))
  unfolding derived
  enough h = (read-exactly S graphics (length lent) P (encode (reread c))).1 (record { derived = derived; fits = h; counts_are = refl })

  lacking : length lent < length (encode (reread c)) → opening S graphics lent ≡ Outcome.refused 2 0
  lacking h = (too_short_exactly S graphics (length lent)).1 (encode (reread c), derived, h)

  -- one of the two
  either : ((length (encode (reread c)) ≤ length lent) × (opening S graphics lent ≡ Outcome.done P (encode (reread c)))) ⊎ (opening S graphics lent ≡ Outcome.refused 2 0)
  either = by (leb (length (encode (reread c))) (length lent)) refl
    where
      by : (b : Bool) → leb (length (encode (reread c))) (length lent) ≡ b
          → ((length (encode (reread c)) ≤ length lent) × (opening S graphics lent ≡ Outcome.done P (encode (reread c)))) ⊎ (opening S graphics lent ≡ Outcome.refused 2 0)
      by true e = let h = leb-true (length (encode (reread c))) (length lent) e in inl (h, enough h)
      by false e = inr (lacking (leb-false (length (encode (reread c))) (length lent) e))

  opens : Opened c S graphics lent
  opens = record {
    counts_shown = λ h. ap shown (enough h);
    words = λ h. ap (λ (o : Outcome Parsed). left o lent) (enough h);
    too_short = λ h. ap shown (lacking h);
    no_other = λ number place said.
        ⊎_elim
        (λ (h, e). let f : values P ≡ refusal number place = sym (ap shown e) ∙ said in let z : ◌≡◌ {A = ℕ} 0 1 = cc in absurd (omega arith))
        (λ e. let f : ◌≡◌ {A = Outcome.Paper Parsed} (refusal 2 0) (refusal number place) = sym (ap shown e) ∙ said in (cc, cc))
        either;
  }

  again : Returned c P (encode (reread c))
  again = record {
    cell = reread c;
    formed = reread_scans c range.fits;
    counts_are = refl;
    head = head_kept c;
    polygons = reread_kept c;
    portals = portals_kept c;
    points = points_kept c;
    cell_is = refl;
  }

  returns : (p : Parsed) → shown (opening S graphics lent) ≡ values p → Returned c p (take p.words (opened_strip S graphics lent))
  returns p said =
      ⊎_elim
      (λ (h, e).
      let same : P ≡ p = let f : values P ≡ values p = sym (ap shown e) ∙ said in cc in
      let strip : opened_strip S graphics lent ≡ encode (reread c) ++ drop (length (encode (reread c))) lent = ap (λ (o : Outcome Parsed). left o lent) e in
      rw (← same, strip, take-append_seam (encode (reread c)) (drop (length (encode (reread c))) lent)) again)
      (λ e. let f : ◌≡◌ {A = Outcome.Paper Parsed} (refusal 2 0) (values p) = sym (ap shown e) ∙ said in let z : ◌≡◌ {A = ℕ} 0 1 = cc in absurd (omega arith))
      either

-- ---- the two calls

done_shown : {A : Type 0} (o : Outcome A) {v : A} → shown o ≡ values v → (ps : List ℕ) × (o ≡ Outcome.done v ps)
done_shown (Outcome.done w ps) e = (ps, cc)
done_shown (Outcome.refused number place) e = let z : ◌≡◌ {A = ℕ} 0 1 = cc in absurd (omega arith)

-- the writer said v of a strip of words
module _ (strip : List ℕ) (work : ℕ) (old : List ℕ) (words : Words strip) (v : Written) (said : shown (saving strip work old) ≡ values v) where
  -- what was written
  pub written : (ps : List ℕ) × (saving strip work old ≡ Outcome.done v ps)
  written = done_shown (saving strip work old) said

  -- the strip stands for a cell that passes every check, and that cell's pages were written
  pub saved : Accepts strip work (length old) v written.0
  saved = (accepted_exactly strip work (length old) v written.0).0 written.1

  pub behind_stays : saved_pages strip work old ≡ with_pages saved.cell old
  behind_stays = ap (λ (o : Outcome Written). left o old) written.1 ∙ ap (λ (ps : List ℕ). ps ++ drop (length ps) old) saved.bytes

  -- the length that it says is that of what it wrote
  pub length_is : v.length ≡ length (pages saved.cell)
  length_is = ap (λ (w : Written). w.length) saved.values_told

  -- as many bytes as that, and no more, are the cell's pages
  pub file_is : saved_file strip work old v ≡ pages saved.cell
  file_is =
      ap (take v.length) behind_stays
      ∙ ap (λ (k : ℕ). take k (with_pages saved.cell old)) length_is
      ∙ take-append_seam (pages saved.cell) (drop (length (pages saved.cell)) old)

  file_alone : saved_file strip work old v ≡ pages saved.cell ++ []
  file_alone = file_is ∙ sym (append-nil (pages saved.cell))

  -- those pages are read, with any graphics section, into a lent strip
  module _ (graphics lent : List ℕ) where
    range : InRange saved.cell
    range = ((scan_exact strip words saved.cell).0 saved.scanned).0

    abbrev tail : List ℕ
    tail = drop (length (pages saved.cell)) old

    pub opened : Opened saved.cell (saved_pages strip work old) graphics lent
    opened = rw behind_stays (opens saved.cell range saved.accepted tail graphics lent)

    pub returned : (p : Parsed) → shown (opening (saved_pages strip work old) graphics lent) ≡ values p
        → Returned saved.cell p (take p.words (opened_strip (saved_pages strip work old) graphics lent))
    returned = rw behind_stays (returns saved.cell range saved.accepted tail graphics lent)

    -- and so is the file
    pub file_opened : Opened saved.cell (saved_file strip work old v) graphics lent
    file_opened = rw file_alone (opens saved.cell range saved.accepted [] graphics lent)

    pub file_returned : (p : Parsed) → shown (opening (saved_file strip work old v) graphics lent) ≡ values p
        → Returned saved.cell p (take p.words (opened_strip (saved_file strip work old v) graphics lent))
    file_returned = rw file_alone (returns saved.cell range saved.accepted [] graphics lent)
