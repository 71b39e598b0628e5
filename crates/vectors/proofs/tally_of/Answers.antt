-- `vectors::tally_of` meets its contract: each turn of the loop passes one record, and none stands where it ends.
use Prim.Native.Nat.{ℕ}
use native.Mathlib.Omega.{arith}
use mathlib.Core.Path.{refl}
use Rattle.replay.specs.Tallies.{at_first}
use Rattle.replay.proofs.Tallies.{later, one_record}
use Rattle.leaf_replay.specs.Agreement.{AgreesAt, record_of}
use Rattle.leaf_replay.specs.declared.Record.{Record}
use Rattle.vectors.proofs.tally_of.Goals as goal

pub loop-at-init : goal.loop-at-init
loop-at-init c = (omega arith, at_first, record { few = omega arith; part = omega arith; shown = omega arith; all = λ h. refl })

pub loop-at-preserved : goal.loop-at-preserved
loop-at-preserved c =
    let here = c.loop-at in
    let r = c.record_at-r in
    let all = c.args.words.now in
    let stands = r.ensures.bound in (
      stands.within,
      one_record _ _ (λ (k : ℕ) (z : Record). AgreesAt all k z) (λ (k : ℕ). record_of all k) (λ (z : Record). z.next) _ _ r.result _ _ here.invariant.1 (omega (arith, c.loop-at-test)) r.ensures.places c.with_record-t.ensures.step,
      later _ _ _ _ c.with_record-t.ensures.bound (omega (arith, stands.starts, stands.ends, stands.to_next)),
    )
