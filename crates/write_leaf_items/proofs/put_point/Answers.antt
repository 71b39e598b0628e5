-- `write_leaf_items::put_point` meets its contract: the position becomes shorts, and the two words have the bytes of the row (`point_words`). Assumes nothing.
use mathlib.Core.Path.{◌≡◌, ap, ◌∙◌}
use mathlib.Core.List.{List, ◌++◌}
use Prim.Native.Nat.{ℕ, ◌+◌, ◌%◌}
use lib.ListN.{get_or}
use Rattle.fields.specs.Bytes.{le_bytes}
use Rattle.fields.specs.Put.{put}
use Rattle.math.specs.declared.vec3.Vec3.{Vec3 as Floats}
use Rattle.quantise.specs.Short.{shorts}
use Rattle.strip.specs.Reading.{vec_at}
use Rattle.write_pages.specs.Items.{floats}
use Rattle.write_leaf_items.proofs.Records.{point_words}
use Rattle.write_leaf_items.proofs.put_point.Goals as goal

pub returns : goal.returns
returns c =
    let a = c.args in
    let s = a.strip.now in
    let q = c.shorts_of-q.ensures ∙ ap (λ (v : Floats). shorts v a.frame.bb_min a.frame.bb_size) c.floats_at.ensures in
    let e0 : le_bytes 4 c.pair.result ≡ le_bytes 2 (shorts (floats (vec_at s (a.at + 1))) a.frame.bb_min a.frame.bb_size).x ++ le_bytes 2 (shorts (floats (vec_at s (a.at + 1))) a.frame.bb_min a.frame.bb_size).y = rw q at c.pair.ensures in
    let e1 : le_bytes 4 c.pair-2.result ≡ le_bytes 2 (shorts (floats (vec_at s (a.at + 1))) a.frame.bb_min a.frame.bb_size).z ++ le_bytes 2 (get_or s a.at 0 % 65536) = rw q at c.pair-2.ensures in
    c.put_all.ensures ∙ ap (λ (bs : List ℕ). put a.p bs a.out.now) (point_words a.frame.bb_min a.frame.bb_size s a.at _ _ e0 e1)
