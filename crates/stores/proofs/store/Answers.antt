-- `stores::store` meets its contract: a part of the slice is written.
use mathlib.Core.Path.{refl, ap, ◌∙◌}
use lib.ListN.{length}
use borrow.Rule.Slice.PartMut.{put_mid}
use Prim.Native.Nat.{◌+◌, ◌-◌}
use Rattle.fields.proofs.Puts.{put_part}
use Rattle.stores.proofs.store.Goals as goal

pub returns : goal.returns
returns c =
    let a = c.args in
    let e = a.off + length a.bytes.now in
    ap (put_mid a.off (e - a.off) a.b.now) c.copy_from_slice.ensures.after ∙ put_part a.off e a.bytes.now a.b.now refl c.requires
