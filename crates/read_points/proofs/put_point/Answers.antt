-- `put_point` meets its contract: the words that it stores are the record.
use Prim.Native.Nat.{◌<◌}
use native.Mathlib.Omega.{arith}
use mathlib.Core.Path.{◌∙◌}
use Rattle.read_points.proofs.Stores.{point_is}
use Rattle.read_points.proofs.put_point.Goals as goal

pub returns : goal.returns
returns c =
    let small : c.from.result < 256 = omega arith in
    let few : c.from-2.result < 256 = omega arith in
    c.put_words.ensures
    ∙ rw (point_is c.args.b.now (c.from.ensures ∙ c.u8_le.ensures) (c.from-2.ensures ∙ c.u8_le-2.ensures) (c.from-x.ensures ∙ c.u16_le.ensures) (c.from-y.ensures ∙ c.u16_le-2.ensures) (c.from-z.ensures ∙ c.u16_le-3.ensures) small few)
