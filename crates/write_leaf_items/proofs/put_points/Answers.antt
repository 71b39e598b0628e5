-- `write_leaf_items::put_points` meets its contract: by the test a turn stores one point and the place moves on, or neither. Assumes nothing.
use Rattle.std.proofs.Common.{◌≡◌, ℕ, ◌+◌, ◌*◌, ◌-◌, cond, eqb, List, [], ◌∷◌, length, get_or, refl, sym, ap, ◌∙◌, append-nil, add-zero, arith}
use Rattle.std.proofs.lemmas.Bool.{eq-eqb, ne_eqb}
use native.Mathlib.Nat.{sub-zero}
use Rattle.fields.specs.Bytes.{cat}
use Rattle.fields.specs.Put.{put}
use Rattle.fields.proofs.Puts.{put_nil}
use Rattle.strip.specs.Cell.{NavPoint}
use Rattle.strip.specs.Reading.{point_at}
use Rattle.strip.specs.Rows.{points_at}
use Rattle.write_pages.specs.Sectors.{point_items}
use Rattle.write_leaf_counts.specs.Work.{picked_from}
use Rattle.write_pages.proofs.Lists.{keep_length}
use Rattle.write_leaf_items.proofs.Keeping.{put_point, points_turn, points_end}
use Rattle.write_leaf_items.proofs.put_points.Goals as goal
use Rattle.write_leaf_items.proofs.put_points.Goals.{In-loop-i, Joined-leaf-k, then-leaf-k, else-leaf-k}

-- the points that are left, this one first where it has the leaf
turn : (c : In-loop-i) → let w = c.args.leaf_numbers.now in let s = c.args.strip.now in let i = c.loop-i.i in let at = c.args.points.at + 4 * i in
    picked_from w c.args.k i (points_at s at (length w - i))
    ≡ cond (eqb (get_or w i 0) c.args.k) (point_at s at ∷ picked_from w c.args.k (i + 1) (points_at s (at + 4) (length w - (i + 1)))) (picked_from w c.args.k (i + 1) (points_at s (at + 4) (length w - (i + 1))))
turn c = points_turn c.args.leaf_numbers.now c.args.strip.now c.args.k (c.args.points.at + 4 * c.loop-i.i) c.loop-i.i (length c.args.leaf_numbers.now) c.loop-i-test.true

pub loop-i-init : goal.loop-i-init
loop-i-init c = rw (add-zero, sub-zero) (refl, refl)

pub overflow_add-p : goal.overflow_add-p
overflow_add-p c =
    let e = eq-eqb _ _ c.if-leaf-k.true in
    omega (arith, c.loop-i.invariant.0, rw e at (ap length (turn (goal.at.overflow_add-p c).In-loop-i)), c.requires.1)

kept : (c : Joined-leaf-k) → let b = eqb (get_or c.args.leaf_numbers.now c.loop-i.i 0) c.args.k in let ps = c.args.points in
    (c.if-leaf-k.p ≡ c.loop-i.p + 8 * cond b 1 0)
    × (c.if-leaf-k.out ≡ put c.loop-i.p (cat (point_items ps.frame.bb_min ps.frame.bb_size (cond b (point_at c.args.strip.now (ps.at + 4 * c.loop-i.i) ∷ []) []))) c.loop-i.out)
unfolding cat point_items
kept c = elim c.if-leaf-k.branch [
  | then-leaf-k w ↦ rw (eq-eqb _ _ w.if-leaf-k.true) (omega (arith, w.p-is), rw append-nil (w.out-is ∙ w.put_point.ensures))
  | else-leaf-k w ↦ rw (ne_eqb _ _ w.if-leaf-k.false) (omega (arith, w.p-is), w.out-is ∙ sym (put_nil c.loop-i.p c.loop-i.out))
]

pub loop-i-preserved : goal.loop-i-preserved
loop-i-preserved c =
    let t = c.loop-i in
    let a = c.args in
    let w = a.leaf_numbers.now in
    let s = a.strip.now in
    let i = t.i in
    let at = a.points.at + 4 * i in
    let b = eqb (get_or w i 0) a.k in
    let x = point_at s at in
    let rest = picked_from w a.k (i + 1) (points_at s (at + 4) (length w - (i + 1))) in
    let bb-min = a.points.frame.bb_min in
    let bb-size = a.points.frame.bb_size in
    let k = kept c in
    let e = turn (goal.at.loop-i-preserved c).In-loop-i in
    let l = ap length e ∙ keep_length b x rest in
    let place : a.points.at + 4 * (i + 1) ≡ at + 4 = omega arith in
    rw place (
      omega (arith, k.0, l, t.invariant.0),
      ap (put c.if-leaf-k.p (cat (point_items bb-min bb-size rest))) k.1
          ∙ ap (λ (j : ℕ). put j (cat (point_items bb-min bb-size rest)) (put t.p (cat (point_items bb-min bb-size (cond b (x ∷ []) []))) t.out)) k.0
          ∙ put_point bb-min bb-size t.p b x rest t.out
          ∙ ap (λ (ts : List NavPoint). put t.p (cat (point_items bb-min bb-size ts)) t.out) (sym e)
          ∙ t.invariant.1,
    )

pub returns : goal.returns
unfolding cat point_items
returns c =
    let t = c.loop-i in
    let a = c.args in
    let e = points_end a.leaf_numbers.now a.strip.now a.k (a.points.at + 4 * t.i) t.i (length a.leaf_numbers.now) c.loop-i-test.false in
    rw (e, put_nil) at t.invariant.1
