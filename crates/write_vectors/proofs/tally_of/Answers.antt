-- `write_vectors::tally_of` meets its contract: each turn of the loop passes one record, and none stands where it ends.
use Prim.Native.Nat.{ℕ}
use native.Mathlib.Omega.{arith}
use mathlib.Core.Path.{refl}
use Rattle.replay.specs.Tallies.{at_first}
use Rattle.replay.proofs.Tallies.{later, one_record}
use Rattle.write_replay.specs.Agreement.{Agrees, record_of}
use Rattle.write_replay.specs.declared.Record.{Record}
use Rattle.write_vectors.proofs.tally_of.Goals as goal

pub loop-at-init : goal.loop-at-init
loop-at-init c = (omega arith, at_first, record { few = omega arith; part = omega arith; shown = omega arith; all = λ h. refl })

pub overflow_sub-list : goal.overflow_sub-list
overflow_sub-list c = omega (arith, c.loop-at.invariant.0)

pub returns-then-u32_le-ne8 : goal.returns-then-u32_le-ne8
returns-then-u32_le-ne8 c =
    let here = c.loop-at in
    record { end = here.at; passed = here.invariant.1; ended = λ h. omega (arith, h.1, c.u32_le.ensures); bounds = later _ _ _ _ here.invariant.2 here.invariant.0 }

pub with_record-t-requires : goal.with_record-t-requires
with_record-t-requires c = (omega arith, c.record_at-r.ensures.bound, c.loop-at.invariant.2)

pub loop-at-smaller : goal.loop-at-smaller
loop-at-smaller c =
    let stands = c.record_at-r.ensures.bound in
    omega (arith, stands.starts, stands.to_bytes, stands.to_next)

pub loop-at-preserved : goal.loop-at-preserved
loop-at-preserved c =
    let here = c.loop-at in
    let r = c.record_at-r in
    let all = c.args.list.now in
    let stands = r.ensures.bound in (
      stands.within,
      one_record _ _ (λ (k : ℕ) (z : Record). Agrees all k z) (λ (k : ℕ). record_of all k) (λ (z : Record). z.next) _ _ r.result _ _ here.invariant.1 (omega arith, omega (arith, c.u32_le.ensures)) r.ensures.places c.with_record-t.ensures.step,
      later _ _ _ _ c.with_record-t.ensures.bound (omega (arith, stands.starts, stands.to_bytes, stands.to_next)),
    )

pub returns : goal.returns
returns c =
    let here = c.loop-at in
    record { end = here.at; passed = here.invariant.1; ended = λ h. omega (arith, h.0); bounds = later _ _ _ _ here.invariant.2 here.invariant.0 }
