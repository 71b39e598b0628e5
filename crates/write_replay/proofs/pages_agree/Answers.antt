-- `write_replay::pages_agree` meets its contract: `checksum`, `bytes_agree` and `stays_from` give the three parts of the definition, up to the length that `told_length` and `min` give; where one fails the answer is false.
use mathlib.Core.Bool.{false≢true}
use native.Mathlib.Omega.{arith}
use Prim.Native.Nat.{ℕ, min}
use mathlib.Core.Path.{ap, sym, ◌∙◌}
use lib.ListN.{length, length-take}
use Rattle.write_replay.proofs.Records.{pages_agreed}
use Rattle.write_replay.proofs.pages_agree.Goals as goal

pub slice_bounds-checksum-end : goal.slice_bounds-checksum-end
slice_bounds-checksum-end c = simp length-take (omega arith)

pub returns-then-checksum-from : goal.returns-then-checksum-from
returns-then-checksum-from c = λ h. absurd (false≢true h)

pub returns-then-bytes_agree : goal.returns-then-bytes_agree
returns-then-bytes_agree c = λ h. pages_agreed _ _ c.args.r _ _ (c.min-filled.ensures ∙ ap (λ (w : ℕ). min w (length c.args.pages.now)) c.told_length.ensures) (sym c.checksum.ensures ∙ c.if-checksum-from.false ∙ c.from.ensures ∙ c.u32_le.ensures) (c.bytes_agree.ensures c.if-bytes_agree.true) (c.stays_from.ensures h)
