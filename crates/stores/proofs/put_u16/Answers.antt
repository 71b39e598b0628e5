-- `stores::put_u16` meets its contract: std's bytes of the number, stored.
use mathlib.Core.Path.{ap, ◌∙◌}
use Rattle.fields.specs.Put.{put}
use Rattle.stores.proofs.Low.{low_bytes_all}
use Rattle.stores.proofs.put_u16.Goals as goal

pub returns : goal.returns
returns c =
    let a = c.args in
    c.put_bytes.ensures ∙ ap (λ bs. put a.off bs a.b.now) (c.to_le_bytes.ensures ∙ low_bytes_all 2 a.v)
