-- The writer's theorems, on what `serialize_ynv` decides. It accepts exactly when the strip is well formed, work has four words to each of its words,
-- and its cell is accepted and has pages that fit, with those pages and their length (`accepted_exactly`); the blocks of what is written stand as the
-- layout promises (`written_placed`); points stored and points dropped make the cell's (`points_told`); what is pushed to the border (`none_pushed_told`, `most_pushed_told`); each refusal is one that is named for writing, with its place (`refused_named`). Assumes nothing.
use Prim.Native.Nat.{ℕ, ◌+◌, ◌*◌, ◌^◌, ◌≤◌, ◌<◌}
use native.Mathlib.Omega.{arith}
use mathlib.Core.Path.{◌≡◌, refl, subst}
use mathlib.Core.List.{List}
use mathlib.Core.Logic.{◌↔◌, ◌⊎◌, inl, inr, ⊎_elim}
use lib.ListN.{length}
use Rattle.quantise.specs.Inside.{InsideBox}
use Rattle.strip.specs.Cell.{Cell}
use Rattle.strip.specs.Fits.{All}
use Rattle.cell_record.specs.Floats.{floats}
use Rattle.pushed.specs.Pushed.{vertices_of, positions}
use Rattle.pushed.proofs.Theorems.{none_pushed, most_pushed}
use Rattle.strip.specs.Scan.{Scanned, ok, fault, scan}
use Rattle.strip.specs.Outcome as Outcome
use Rattle.strip.specs.Check.{on_cell}
use Rattle.strip.proofs.Faults.{Refused, scan_fault}
use Rattle.strip.proofs.Faults as Faults
use Rattle.write_blocks.specs.Placed.{Placed}
use Rattle.write_pages.specs.Pages.{blocks, pages}
use Rattle.write_pages.specs.Checks.{Verdict, fine, refused, on_verdict, cell_verdict, cell_outcome}
use Rattle.write_pages.proofs.Accepted.{accepted}
use Rattle.write_pages.proofs.Placed.{pages_placed, pages_short}
use Rattle.write_pages.proofs.Stored.{stored_and_dropped}
use Rattle.ynv_write.specs.declared.Written.{Written}
use Rattle.ynv_write.specs.Serialize.{written_of, serialize_outcome}
use Rattle.ynv_write.specs.Theorems.{Named, Accepts}
use Rattle.ynv_write.proofs.Named.{AsNamed, cell_named, above_zero}

module _ (strip : List ℕ) (work out : ℕ) where
  -- the checks of the strip's cell
  abbrev verdict : Cell → Verdict
  verdict c = cell_verdict (length strip) work out c

  -- what a verdict, and what a scan comes to
  verdict_done : (c : Cell) (v : Verdict) {w : Written} {ps : List ℕ} → on_verdict v (Outcome.done (written_of c) (pages c)) ≡ Outcome.done w ps
      → (v ≡ fine) × (w ≡ written_of c) × (ps ≡ pages c)
  verdict_done c fine e = (refl, cc, cc)
  verdict_done c (refused number place) e = let z : ◌≡◌ {A = ℕ} 0 1 = cc in absurd (omega arith)

  verdict_refused : (c : Cell) (v : Verdict) {number place : ℕ} → on_verdict v (Outcome.done (written_of c) (pages c)) ≡ Outcome.refused number place
      → v ≡ refused number place
  verdict_refused c fine e = let z : ◌≡◌ {A = ℕ} 0 1 = cc in absurd (omega arith)
  verdict_refused c (refused number place) e = cc

  scan_done : (r : Scanned) {w : Written} {ps : List ℕ} → on_cell (cell_outcome written_of (length strip) work out) r ≡ Outcome.done w ps
      → (c : Cell) × (r ≡ ok c) × (verdict c ≡ fine) × (w ≡ written_of c) × (ps ≡ pages c)
  scan_done (ok c) e = let (passes, told, bytes) = verdict_done c (verdict c) e in (c, refl, passes, told, bytes)
  scan_done (fault number place) e = let z : ◌≡◌ {A = ℕ} 0 1 = cc in absurd (omega arith)

  scan_refused : (r : Scanned) {number place : ℕ} → on_cell (cell_outcome written_of (length strip) work out) r ≡ Outcome.refused number place
      → (r ≡ fault number place) ⊎ ((c : Cell) × (r ≡ ok c) × (verdict c ≡ refused number place))
  scan_refused (ok c) e = inr (c, refl, verdict_refused c (verdict c) e)
  scan_refused (fault number place) e = inl cc

  -- ---- accepted

  pub accepted_exactly : (w : Written) (ps : List ℕ) → (serialize_outcome strip work out ≡ Outcome.done w ps) ↔ Accepts strip work out w ps
  unfolding serialize_outcome
  accepted_exactly w ps = (there, back)
    where
      there : serialize_outcome strip work out ≡ Outcome.done w ps → Accepts strip work out w ps
      there e =
          let (c, scanned, passes, told, bytes) = scan_done (scan strip) e in
          let (enough, acc, fits) = (accepted (length strip) work out c).0 passes in
          record { cell = c; scanned = scanned; work_fits = enough; accepted = acc; pages_fit = fits; bytes = bytes; values_told = told }

      back : Accepts strip work out w ps → serialize_outcome strip work out ≡ Outcome.done w ps
      back a = rw (a.scanned, (accepted (length strip) work out a.cell).1 (a.work_fits, a.accepted, a.pages_fit), a.values_told, a.bytes)

  -- the blocks of what is written stand as the layout promises, and no address in them is one of the graphics section
  pub written_placed : {w : Written} {ps : List ℕ} (a : Accepts strip work out w ps) → Placed (blocks a.cell) × (length ps < 2 ^ 28)
  written_placed a = (pages_placed a.cell a.accepted, rw a.bytes (pages_short a.cell a.accepted))

  -- the points that it says are stored and dropped "together make the points of the strip"
  pub points_told : {w : Written} {ps : List ℕ} (a : Accepts strip work out w ps) → w.stored + w.dropped ≡ length a.cell.points
  points_told a = rw a.values_told (stored_and_dropped a.cell)

  -- the coordinates that it says are pushed to the border are none exactly where every coordinate is inside, and at most three to a position
  pub none_pushed_told : {w : Written} {ps : List ℕ} (a : Accepts strip work out w ps)
      → (w.pushed ≡ 0) ↔ All (λ v. InsideBox (floats v) (floats a.cell.head.bb_min) (floats a.cell.head.bb_size)) (positions a.cell)
  none_pushed_told a = rw a.values_told (none_pushed a.cell)

  pub most_pushed_told : {w : Written} {ps : List ℕ} (a : Accepts strip work out w ps)
      → w.pushed ≤ 3 * (length (vertices_of a.cell.polys) + 2 * length a.cell.portals + length a.cell.points)
  most_pushed_told a = rw a.values_told (most_pushed a.cell)

  -- ---- refused

  -- a refusal is the strip's (3, badly formed) or one of its cell's
  pub refused_named : {number place : ℕ} → serialize_outcome strip work out ≡ Outcome.refused number place
      → Refused strip number place ⊎ ((c : Cell) × (scan strip ≡ ok c) × Named c number place)
  unfolding serialize_outcome
  refused_named {number} {place} e =
      ⊎_elim
      (λ f. inl ((scan_fault strip number place).0 f))
      (λ (c, scanned, v). inr (c, scanned, subst (AsNamed c) v (cell_named c (length strip) work out)))
      (scan_refused (scan strip) e)

  pub refused_above_zero : {number place : ℕ} → serialize_outcome strip work out ≡ Outcome.refused number place → 0 < number
  refused_above_zero e = ⊎_elim Faults.refused_above_zero (λ other. above_zero other.2) (refused_named e)
