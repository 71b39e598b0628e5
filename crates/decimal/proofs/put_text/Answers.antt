-- `decimal::put_text` meets its contract: as much of the text as there is room for is stored, and no more shows.
use mathlib.Core.Path.{◌≡◌, sym, ap, ◌∙◌}
use Prim.Native.Nat.{◌+◌, ◌-◌}
use native.Mathlib.Omega.{arith}
use native.Mathlib.Decide.{dec_le}
use lib.ListN.{length, take}
use lib.Seq.{take_all, length-take-le}
use borrow.Rule.Slice.PartMut.{put_mid}
use Rattle.fields.specs.Put.{put}
use Rattle.fields.proofs.Puts.{past_end, put_part, put_most}
use Rattle.decimal.proofs.put_text.Goals as goal

pub returns-then-at-out-clause-stored : goal.returns-then-at-out-clause-stored
returns-then-at-out-clause-stored c =
    let a = c.args in
    let text = a.text.now in
    let n = c.min-n.result in
    let few : length (take n text) ≡ n = length-take-le n text (omega (arith, c.min-n.ensures)) in
    ap (put_mid a.at (a.at + n - a.at) a.out.now) c.copy_from_slice.ensures.after
    ∙ put_part a.at (a.at + n) (take n text) a.out.now (omega arith) (omega (arith, c.min-n.ensures))
    ∙ elim (dec_le (length text) n) [
      | yes h ↦ ap (λ s. put a.at s a.out.now) (take_all n text h)
      | no h ↦ put_most a.at n text a.out.now (omega (arith, c.min-n.ensures)) (omega (arith, c.min-n.ensures))
    ]

pub returns-else-at-out-clause-stored : goal.returns-else-at-out-clause-stored
returns-else-at-out-clause-stored c = sym (past_end _ _ _ c.if-at-out.false)
