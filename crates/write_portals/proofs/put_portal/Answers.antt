-- `write_portals::put_portal` meets its contract: both ends become shorts, and the words have the bytes of the row (`portal_words`). Assumes nothing.
use mathlib.Core.Path.{ap, ◌∙◌}
use mathlib.Core.List.{List}
use Prim.Native.Nat.{ℕ}
use Rattle.fields.specs.Put.{put}
use Rattle.write_portals.proofs.Records.{portal_words}
use Rattle.write_portals.proofs.put_portal.Goals as goal

pub returns : goal.returns
returns c =
    let a = c.args in
    let from = rw c.floats_at.ensures at c.shorts_of-a.ensures in
    let to = rw c.floats_at-2.ensures at c.shorts_of-b.ensures in
    let words = rw (c.from.ensures, c.from-2.ensures, c.from-3.ensures, c.from-4.ensures, c.from-5.ensures, c.from-6.ensures) at c.put_all.ensures in
    words ∙ ap (λ (bs : List ℕ). put a.to bs a.out.now) (portal_words a.frame.bb_min a.frame.bb_size a.strip.now a.at _ _ _ from to c.portal_areas-areas.ensures)
