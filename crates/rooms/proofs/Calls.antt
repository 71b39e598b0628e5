-- What the rooms say of the two calls, on what `serialize_ynv` and `parse_ynv` decide. Assumes nothing.
use Prim.Native.Nat.{ℕ, ◌+◌, ◌-◌, ◌*◌, ◌≤◌, ◌<◌}
use native.Mathlib.Omega.{arith}
use mathlib.Core.Path.{◌≡◌, refl, sym, ap, ◌∙◌}
use mathlib.Core.List.{List, ◌++◌}
use mathlib.Core.Logic.{◌⊎◌, inl, inr, ⊎_elim}
use lib.ListN.{length, take, drop, length-append}
use lib.Seq.{take-append-add}
use Rattle.distinct.proofs.Left.{drop_more}
use Rattle.strip.specs.Cell.{Cell, encode}
use Rattle.strip.specs.Fits.{Words, InRange}
use Rattle.strip.specs.Scan.{Scanned, ok, fault, scan}
use Rattle.strip.specs.Outcome.{Outcome, values, refusal, shown, left}
use Rattle.strip.specs.Check.{on_cell}
use Rattle.strip.proofs.Exact.{scan_exact, scan_fits}
use Rattle.strip.proofs.Faults.{scan_fault, refused_three}
use Rattle.read_decide.specs.Answer.{counts_of}
use Rattle.ynv_read.specs.Parse.{parse_outcome}
use Rattle.write_pages.specs.Preorder.{sector_count}
use Rattle.write_pages.specs.Pages.{sectors, pages}
use Rattle.write_pages.specs.Checks.{Verdict, fine, refused, on_verdict, cell_verdict, cell_outcome}
use Rattle.write_pages.specs.Reread.{reread}
use Rattle.write_pages.specs.Accepted.{Accepted}
use Rattle.write_pages.proofs.Accepted.{accepted}
use Rattle.ynv_write.specs.declared.Written.{Written}
use Rattle.ynv_write.specs.Serialize.{written_of, serialize_outcome}
use Rattle.roundtrip.proofs.RoundTrip.{enough, saved, behind_stays, length_is}
use Rattle.rooms.specs.Rooms.{work_room, work_used, pages_room, strip_room}
use Rattle.rooms.proofs.Rooms.{pages_room_lem, strip_room_lem}
use Rattle.rooms.proofs.Last.{refused_accepted}

-- ---- writing: with so much lent, a refusal is the strip's own, neither 1 nor 2

module _ (strip : List ℕ) (work out : ℕ) (work-lent : work_room (length strip) ≤ work) (pages-lent : pages_room (length strip) ≤ out) where
  verdict_late : (c : Cell) → scan strip ≡ ok c → (number place : ℕ) → cell_verdict (length strip) work out c ≡ refused number place → 10 ≤ number
  verdict_late c formed number place e = late below
    where
      late : (number < 10 → ⊥) → 10 ≤ number
      late h = omega arith

      below : number < 10 → ⊥
      below few =
          let acc = refused_accepted (length strip) work out c (omega arith) number place e few in
          let same : length (encode c) ≡ length strip = ap length ((scan_fits strip c).0 formed).1 in
          let fits : length (pages c) ≤ out = omega (arith, pages_room_lem c acc) in
          let passed : cell_verdict (length strip) work out c ≡ fine = (accepted (length strip) work out c).1 (omega arith, acc, fits) in
          let z : ◌≡◌ {A = ℕ} 0 1 = cc in omega arith

  pub writing_enough : (number place : ℕ) → shown (serialize_outcome strip work out) ≡ refusal number place → (number ≡ 3) ⊎ (10 ≤ number)
  unfolding serialize_outcome
  writing_enough number place said = by (scan strip) refl said
    where
      on : (c : Cell) → scan strip ≡ ok c → (v : Verdict) → cell_verdict (length strip) work out c ≡ v → shown (on_verdict v (Outcome.done (written_of c) (pages c))) ≡ refusal number place → 10 ≤ number
      on c e fine f h = let z : ◌≡◌ {A = ℕ} 0 1 = cc in absurd (omega arith)
      on c e (refused m p) f h = let same : m ≡ number = cc in omega (arith, verdict_late c e m p f)

      by : (s : Scanned) → scan strip ≡ s → shown (on_cell (cell_outcome written_of (length strip) work out) s) ≡ refusal number place → (number ≡ 3) ⊎ (10 ≤ number)
      by (ok c) e h = inr (on c e (cell_verdict (length strip) work out c) refl h)
      by (fault m p) e h = let same : m ≡ number = cc in inl (omega (arith, refused_three ((scan_fault strip m p).0 e)))

  pub never_too_short : (place : ℕ) → shown (serialize_outcome strip work out) ≡ refusal 2 place → ⊥
  never_too_short place said = ⊎_elim (λ e. omega arith) (λ h. omega arith) (writing_enough 2 place said)

-- n words that the caller keeps in work, at k behind those that the writer uses, are there after the call: `beyond` of the promise is all that this asks
-- of work w before and w' after it
pub kept_in_work : (strip w w' : List ℕ) → drop (2 * length strip) w' ≡ drop (2 * length strip) w → (k n : ℕ) → work_used (length strip) ≤ k → take n (drop k w') ≡ take n (drop k w)
kept_in_work strip w w' beyond k n h = ap (take n) (drop_more (2 * length strip) k h w' w beyond)

-- ---- reading what was written: with so much lent, it is read

-- whatever stands behind the pages
pub reading_enough : (c : Cell) → InRange c → Accepted c → (tail graphics lent : List ℕ) → strip_room (length (pages c ++ tail)) ≤ length lent
    → parse_outcome (pages c ++ tail) graphics (length lent) ≡ Outcome.done (counts_of (reread c) (sector_count (sectors c))) (encode (reread c))
reading_enough c range acc tail graphics lent room = enough c range acc tail graphics lent (omega (arith, strip_room_lem c acc, length-append (pages c) tail))

-- the writer said w of a strip of words, and the first m bytes of the lent pages are read, with all that it wrote among them
module _ (strip : List ℕ) (work : ℕ) (old : List ℕ) (words : Words strip) (w : Written) (said : shown (serialize_outcome strip work (length old)) ≡ values w)
    (m : ℕ) (all : w.length ≤ m) (graphics lent : List ℕ) where
  abbrev cell : Cell
  cell = (saved strip work old words w said).cell

  -- these bytes
  abbrev kept : List ℕ
  kept = take m (left (serialize_outcome strip work (length old)) old)

  pub read_again : strip_room (length kept) ≤ length lent → shown (parse_outcome kept graphics (length lent)) ≡ values (counts_of (reread cell) (sector_count (sectors cell)))
  read_again room =
      let s = saved strip work old words w said in
      let long : length (pages cell) + (m - length (pages cell)) ≡ m = omega (arith, length_is strip work old words w said) in
      let tail = take (m - length (pages cell)) (drop (length (pages cell)) old) in
      let is : kept ≡ pages cell ++ tail =
      ap (take m) (behind_stays strip work old words w said) ∙ ap (λ (k : ℕ). take k (pages cell ++ drop (length (pages cell)) old)) (sym long)
      ∙ take-append-add (pages cell) (drop (length (pages cell)) old) (m - length (pages cell)) in
      rw is (ap shown (reading_enough cell ((scan_exact strip words cell).0 s.scanned).0 s.accepted tail graphics lent (rw is at room)))

  pub never_refused : strip_room (length kept) ≤ length lent → (number place : ℕ) → shown (parse_outcome kept graphics (length lent)) ≡ refusal number place → ⊥
  never_refused room number place e = let again = read_again room in let z : ◌≡◌ {A = ℕ} 0 1 = cc in omega arith
