-- `write_leaves::put_sector` meets its contract: each axis of the quarter box is two fields of the row (`axis_word`), and so the words have its bytes (`sector_words`). Assumes nothing.
use mathlib.Core.Path.{ap, ◌∙◌}
use mathlib.Core.List.{List}
use Prim.Native.Nat.{ℕ}
use Rattle.fields.specs.Put.{put}
use Rattle.quarters.specs.declared.quarter.QuarterBox.{QuarterBox}
use Rattle.write_leaves.proofs.Records.{axis_word, sector_words}
use Rattle.write_leaves.proofs.put_sector.Goals as goal

pub returns : goal.returns
returns c =
    let a = c.args in
    let q = c.quarter_box-q.ensures in
    (rw (
      c.bits_of_float.ensures,
      c.bits_of_float-2.ensures,
      c.bits_of_float-3.ensures,
      c.bits_of_float-4.ensures,
      c.bits_of_float-5.ensures,
      c.bits_of_float-6.ensures,
    ) at c.put_all.ensures)
    ∙ ap (λ (bs : List ℕ). put a.at bs a.out.now)
    (sector_words a.b _ _ _ a.«data» a.s0 a.s1 a.s2 a.s3
    (axis_word a.b.min.x a.b.max.x _ _ _ (ap (λ (b : QuarterBox). b.x_min) q) (ap (λ (b : QuarterBox). b.x_max) q) (c.quarter_pair.ensures.word, c.quarter_pair.ensures.bound))
    (axis_word a.b.min.y a.b.max.y _ _ _ (ap (λ (b : QuarterBox). b.y_min) q) (ap (λ (b : QuarterBox). b.y_max) q) (c.quarter_pair-2.ensures.word, c.quarter_pair-2.ensures.bound))
    (axis_word a.b.min.z a.b.max.z _ _ _ (ap (λ (b : QuarterBox). b.z_min) q) (ap (λ (b : QuarterBox). b.z_max) q) (c.quarter_pair-3.ensures.word, c.quarter_pair-3.ensures.bound))
    c.ranges.«data».fits c.ranges.s0.fits c.ranges.s1.fits c.ranges.s2.fits c.ranges.s3.fits)
