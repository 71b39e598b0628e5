-- The points that the writer says it stored are those that the saved pages' header counts (`header_told`) and those that reading them gives
-- (`points_read`), whatever graphics section is lent. Document 02, No. 2. Assumes nothing.
use Prim.Native.Nat.{ℕ}
use mathlib.Core.Path.{◌≡◌, ap, sym, ◌∙◌}
use mathlib.Core.List.{List}
use lib.ListN.{length, drop}
use Rattle.fields.specs.Bytes.{le_at}
use Rattle.strip.specs.Fits.{Words}
use Rattle.strip.specs.Outcome.{values, shown}
use Rattle.read_decide.specs.declared.Parsed.{Parsed}
use Rattle.write_pages.specs.Pages.{pages}
use Rattle.write_pages.specs.PointCounts.{stored_count}
use Rattle.ynv_write.specs.declared.Written.{Written}
use Rattle.readback.proofs.Points.{header_count, read_count}
use Rattle.roundtrip.specs.RoundTrip.{saving, saved_pages, opening}
use Rattle.roundtrip.proofs.RoundTrip.{saved, behind_stays, returned}

module _ (strip : List ℕ) (work : ℕ) (old : List ℕ) (words : Words strip) (v : Written) (said : shown (saving strip work old) ≡ values v) where
  stored_told : stored_count (saved strip work old words v said).cell ≡ v.stored
  stored_told = sym (ap (λ (w : Written). w.stored) (saved strip work old words v said).values_told)

  -- at 0x148
  pub header_told : le_at 4 (saved_pages strip work old) 0x148 ≡ v.stored
  header_told =
      let s = saved strip work old words v said in
      ap (λ (ps : List ℕ). le_at 4 ps 0x148) (behind_stays strip work old words v said)
      ∙ header_count s.cell (drop (length (pages s.cell)) old) s.accepted
      ∙ stored_told

  pub points_read : (graphics lent : List ℕ) (p : Parsed) → shown (opening (saved_pages strip work old) graphics lent) ≡ values p → p.points ≡ v.stored
  points_read graphics lent p told =
      let s = saved strip work old words v said in
      let r = returned strip work old words v said graphics lent p told in
      ap (λ (q : Parsed). q.points) r.counts_are ∙ ap (λ c. length c.points) r.cell_is ∙ read_count s.cell ∙ stored_told
