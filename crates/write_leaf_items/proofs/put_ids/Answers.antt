-- `write_leaf_items::put_ids` meets its contract: by the test a turn stores one id and the place moves on, or neither. Assumes nothing.
use Rattle.std.proofs.Common.{◌≡◌, ℕ, ◌+◌, ◌*◌, ◌/◌, ◌-◌, cond, List, [], ◌∷◌, length, sym, ap, ◌∙◌, append-nil, arith}
use Rattle.fields.specs.Bytes.{les}
use Rattle.fields.specs.Put.{put}
use Rattle.fields.proofs.Puts.{put_nil}
use Rattle.write_pages.specs.Sectors.{meets, leaf_ids}
use Rattle.write_leaf_counts.specs.Work.{box_at, boxes_at}
use Rattle.write_leaf_counts.proofs.Picks.{ids_turn, count_ids_turn, ids_end}
use Rattle.write_leaf_items.proofs.Keeping.{put_id}
use Rattle.write_leaf_items.proofs.put_ids.Goals as goal
use Rattle.write_leaf_items.proofs.put_ids.Goals.{Joined-meets_at, then-meets_at, else-meets_at}

kept : (c : Joined-meets_at) → let b = meets c.args.q (box_at c.args.boxes.now (3 * c.loop-i.i)) in
    (c.if-meets_at.p ≡ c.loop-i.p + 2 * cond b 1 0) × (c.if-meets_at.out ≡ put c.loop-i.p (les 2 (cond b (c.loop-i.i ∷ []) [])) c.loop-i.out)
unfolding les
kept c = elim c.if-meets_at.branch [
  | then-meets_at w ↦ rw (← c.meets_at.ensures, w.if-meets_at.true) (omega (arith, w.p-is), rw append-nil (w.out-is ∙ w.put_le.ensures))
  | else-meets_at w ↦ rw (← c.meets_at.ensures, w.if-meets_at.false) (omega (arith, w.p-is), w.out-is ∙ sym (put_nil c.loop-i.p c.loop-i.out))
]

pub loop-i-preserved : goal.loop-i-preserved
loop-i-preserved c =
    let t = c.loop-i in
    let a = c.args in
    let w = a.boxes.now in
    let n = length w / 3 in
    let i = t.i in
    let q = a.q in
    let b = meets q (box_at w (3 * i)) in
    let rest = leaf_ids q (i + 1) (boxes_at w (3 * (i + 1)) (n - (i + 1))) in
    let k = kept c in
    let e = ids_turn w q i n c.loop-i-test.true in
    let l = count_ids_turn w q i n c.loop-i-test.true in (
      omega (arith, k.0, t.invariant.0),
      ap (put c.if-meets_at.p (les 2 rest)) k.1
          ∙ ap (λ (j : ℕ). put j (les 2 rest) (put t.p (les 2 (cond b (i ∷ []) [])) t.out)) k.0
          ∙ put_id t.p b i rest t.out
          ∙ ap (λ (xs : List ℕ). put t.p (les 2 xs) t.out) (sym e)
          ∙ t.invariant.1,
    )

pub returns : goal.returns
unfolding les
returns c =
    let t = c.loop-i in
    let a = c.args in
    let e = ids_end a.boxes.now a.q t.i (length a.boxes.now / 3) c.loop-i-test.false in
    rw (e, put_nil) at t.invariant.1
