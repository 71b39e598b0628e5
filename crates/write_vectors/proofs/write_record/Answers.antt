-- `write_vectors::write_record` meets its contract: `u32_le` and `min` give how many words of work and how many bytes of pages are lent, and `serialize_ynv` decides on these; what is not lent stays.
use Prim.Native.Nat.{ℕ, min}
use mathlib.Core.Path.{ap, ◌∙◌}
use lib.ListN.{length}
use Rattle.write_vectors.proofs.Records.{answered, pages_left}
use Rattle.write_vectors.proofs.write_record.Goals as goal

pub returns : goal.returns
returns c =
    let strip = c.args.strip.now in
    let pages = c.args.pages.now in
    let d = c.min-words.ensures ∙ ap (λ (w : ℕ). min w 856000) c.u32_le.ensures in
    let e = c.min-room.ensures ∙ ap (λ (w : ℕ). min w (length pages)) c.u32_le-2.ensures in
    record {
      answer = answered _ _ strip c.work_room-work.result pages _ d c.work_room-work.ensures _ e _ c.serialize_ynv.ensures.answer;
      pages = pages_left _ _ strip c.work_room-work.result pages _ d c.work_room-work.ensures _ e _ c.serialize_ynv.ensures.pages;
    }
