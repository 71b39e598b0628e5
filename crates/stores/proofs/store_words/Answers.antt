-- `stores::store_words` meets its contract. The loop's invariant: storing what is left of the words from here on gives what is promised, and
use mathlib.Core.Path.{◌≡◌, ap, ◌∙◌}
use mathlib.Core.List.{[]}
use Prim.Native.Nat.{◌+◌}
use native.Mathlib.Omega.{arith}
use lib.ListN.{length, drop, get_or, drop_of_length-le}
use Rattle.fields.specs.Bytes.{les, le_bytes}
use Rattle.fields.specs.Put.{put}
use Rattle.fields.proofs.Puts.{length_put, put_les, put_nil}
use Rattle.stores.proofs.Low.{low_bytes_all}
use Rattle.stores.proofs.store_words.Goals as goal

pub loop-w-preserved : goal.loop-w-preserved
loop-w-preserved c =
    let l = c.loop-w in
    let a = c.args in
    let rest = les 4 (drop (l.w-index + 1) a.ws.now) in
    let stored : c.store.new.b ≡ put l.at (le_bytes 4 (get_or a.ws.now l.w-index 0)) l.b =
    c.store.ensures ∙ ap (λ bs. put l.at bs l.b) (c.to_le_bytes.ensures ∙ low_bytes_all 4 (get_or a.ws.now l.w-index 0)) in (
      omega arith,
      ap length stored ∙ length_put _ _ _ ∙ l.invariant.1,
      ap (put (l.at + 4) rest) stored ∙ put_les 4 l.at a.ws.now l.w-index l.b (omega arith) ∙ l.invariant.2,
    )

pub returns : goal.returns
unfolding les
returns c =
    let l = c.loop-w in
    let ws = c.args.ws.now in
    let e : drop l.w-index ws ≡ [] = drop_of_length-le ws c.loop-w-test.false in
    rw (e, les, put_nil) at l.invariant.2
