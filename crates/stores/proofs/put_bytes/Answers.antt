-- `stores::put_bytes` meets its contract. The loop's invariant: storing what is left of the bytes from here on gives what is promised.
use mathlib.Core.Path.{◌≡◌, sym, ap, ◌∙◌}
use mathlib.Core.List.{List, []}
use Prim.Native.Nat.{ℕ, suc, ◌+◌, ◌<◌}
use native.Mathlib.Nat.{add-zero, add-suc}
use native.Mathlib.Numerals.{add-one}
use native.Mathlib.Omega.{arith}
use lib.ListN.{length, drop, set, get_or, drop_of_length-le}
use lib.Seq.{drop-cons}
use Rattle.fields.specs.Put.{put}
use Rattle.fields.proofs.Puts.{past_end, put_nil, put_cons}
use Rattle.stores.proofs.put_bytes.Goals as goal
use Rattle.stores.proofs.put_bytes.Goals.{then-i-room, else-i-room}

-- the byte at i is stored, and then those behind it
next : (at i : ℕ) (bs xs : List ℕ) → i < length bs → put (at + (i + 1)) (drop (i + 1) bs) (set xs (at + i) (get_or bs i 0)) ≡ put (at + i) (drop i bs) xs
next at i bs xs h = rw (drop-cons bs i 0 h, put_cons (at + i) (get_or bs i 0) (drop (suc i) bs) xs, add-one i, add-suc at i)

pub returns-then-b-off : goal.returns-then-b-off
returns-then-b-off c = sym (past_end _ _ _ c.if-b-off.true)

pub loop-i-init : goal.loop-i-init
loop-i-init c = rw add-zero

pub loop-i-preserved : goal.loop-i-preserved
loop-i-preserved c =
    let l = c.loop-i in
    let a = c.args in
    let rest = drop (l.i + 1) a.bytes.now in
    elim c.if-i-room.branch [
      | then-i-room w ↦ ap (put (a.off + (l.i + 1)) rest) w.b-is ∙ next a.off l.i a.bytes.now l.b c.loop-i-test.true ∙ l.invariant
      | else-i-room w ↦
          ap (put (a.off + (l.i + 1)) rest) w.b-is ∙ past_end (a.off + (l.i + 1)) rest l.b (omega arith)
          ∙ sym (past_end (a.off + l.i) (drop l.i a.bytes.now) l.b (omega arith)) ∙ l.invariant
    ]

pub returns : goal.returns
returns c =
    let l = c.loop-i in
    let e : drop l.i c.args.bytes.now ≡ [] = drop_of_length-le c.args.bytes.now c.loop-i-test.false in
    rw (e, put_nil) at l.invariant
