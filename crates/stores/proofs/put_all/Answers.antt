-- `stores::put_all` meets its contract: with room for all words by `store_words`, otherwise by a loop. The loop's invariant: storing what is left of the numbers from here on gives what is promised.
use mathlib.Core.Path.{◌≡◌, sym, ap, ◌∙◌}
use mathlib.Core.List.{[]}
use Prim.Native.Nat.{◌+◌}
use native.Mathlib.Omega.{arith}
use lib.ListN.{length, drop, drop_of_length-le}
use Rattle.fields.specs.Bytes.{les}
use Rattle.fields.specs.Put.{put}
use Rattle.fields.proofs.Puts.{past_end, length_put, put_les, put_les_last, put_nil}
use Rattle.stores.proofs.put_all.Goals as goal

pub returns-then-b-off : goal.returns-then-b-off
returns-then-b-off c = sym (past_end _ _ _ c.if-b-off.true)

pub returns-then-b-at : goal.returns-then-b-at
returns-then-b-at c =
    let l = c.loop-w in
    let a = c.args in
    c.put_word.ensures ∙ put_les_last a.n l.at a.ws.now l.w-index l.b (omega arith) (omega arith) ∙ l.invariant.2

pub loop-w-preserved : goal.loop-w-preserved
loop-w-preserved c =
    let l = c.loop-w in
    let a = c.args in
    let rest = les a.n (drop (l.w-index + 1) a.ws.now) in (
      omega arith,
      ap length c.put_word.ensures ∙ length_put _ _ _ ∙ l.invariant.1,
      ap (put (l.at + a.n) rest) c.put_word.ensures ∙ put_les a.n l.at a.ws.now l.w-index l.b (omega arith) ∙ l.invariant.2,
    )

pub returns : goal.returns
unfolding les
returns c =
    let l = c.loop-w in
    let ws = c.args.ws.now in
    let e : drop l.w-index ws ≡ [] = drop_of_length-le ws c.loop-w-test.false in
    rw (e, les, put_nil) at l.invariant.2
