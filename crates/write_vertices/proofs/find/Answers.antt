-- `write_vertices::find` meets its contract. The invariant, `Walking`: a vertex with the triple is still ahead.
use Prim.Native.Nat.{ℕ, ◌*◌, ◌-◌, ◌<◌}
use native.Mathlib.Omega.{arith}
use mathlib.Core.Path.{sym, ap, ◌∙◌}
use Rattle.write_vertices.specs.Table.{half_word_at, child}
use Rattle.write_vertices.proofs.Links.{apart}
use Rattle.write_vertices.proofs.Walking.{begin, below, onward, later, stands_here, stands_last, ended}
use Rattle.write_vertices.proofs.find.Goals as goal
use Rattle.write_vertices.proofs.find.Goals.{In-loop-p, else-count-gt65535-via-then-count-gt65535+else-triple_at-triple, else-count-gt65535-via-else-count-gt65535}

-- in the loop there is a vertex, below the count
under : (c : In-loop-p) → c.loop-p.p - 1 < c.args.count
under c = omega (arith, below _ _ _ _ c.requires.0 _ _ _ c.loop-p.invariant)

pub half_word_at-p-requires : goal.half_word_at-p-requires
half_word_at-p-requires c = omega (arith, c.requires.0.room, c.hash-place.ensures.bound)

pub loop-p-init : goal.loop-p-init
loop-p-init c = begin _ _ _ _ c.requires.0 _ _ (ap (λ (h : ℕ). 2 * h) c.hash-place.ensures.bucket) c.half_word_at-p.ensures

pub overflow_mul-i : goal.overflow_mul-i
overflow_mul-i c = omega (arith, under c, c.requires.0.few)

pub overflow_add-buckets : goal.overflow_add-buckets
overflow_add-buckets c = omega (arith, under c, c.requires.0.few, c.requires.0.narrow)

pub whole_triple_at-requires : goal.whole_triple_at-requires
whole_triple_at-requires c = omega (arith, under c, c.requires.0.room)

pub returns-then-whole_triple_at-triple : goal.returns-then-whole_triple_at-triple
returns-then-whole_triple_at-triple c = stands_here _ _ _ _ c.requires.0 _ _ _ c.loop-p.invariant (omega arith) (sym c.whole_triple_at.ensures.triple ∙ c.if-whole_triple_at-triple.true)

pub child_of-place-requires : goal.child_of-place-requires
child_of-place-requires c = (c.requires.0.narrow, omega (arith, under (goal.at.child_of-place-requires c).In-loop-p, c.requires.0.few))

pub half_word_at-p-requires-in-loop-p : goal.half_word_at-p-requires-in-loop-p
half_word_at-p-requires-in-loop-p c =
    let w = (apart c.requires.0.wide (child (c.loop-p.p - 1) c.loop-p.key (under (goal.at.half_word_at-p-requires-in-loop-p c).In-loop-p))).within in
    rw c.child_of-place.ensures (omega (arith, w, c.requires.0.room))

pub loop-p-smaller : goal.loop-p-smaller
loop-p-smaller c = later _ _ _ _ c.requires.0 _ _ _ c.loop-p.invariant (omega arith) _ (c.half_word_at-p-in-loop-p.ensures ∙ ap (half_word_at c.args.table.now) c.child_of-place.ensures)

pub loop-p-preserved : goal.loop-p-preserved
loop-p-preserved c = onward _ _ _ _ c.requires.0 _ _ _ c.loop-p.invariant (omega arith) c.requires.1 (λ e. c.if-whole_triple_at-triple.false (c.whole_triple_at.ensures.triple ∙ e)) _ _ _ c.child_of-place.ensures c.half_word_at-p-in-loop-p.ensures (omega arith)

pub overflow_add-buckets-then-count-gt65535 : goal.overflow_add-buckets-then-count-gt65535
overflow_add-buckets-then-count-gt65535 c = omega (arith, c.requires.0.narrow)

pub returns-then-triple_at-triple : goal.returns-then-triple_at-triple
returns-then-triple_at-triple c = stands_last _ _ _ _ c.requires.0 _ _ _ c.loop-p.invariant (omega arith) (omega (arith, c.if-count-gt65535.true)) (sym c.triple_at.ensures.triple ∙ c.if-triple_at-triple.true)

pub returns : goal.returns
returns c =
    ended _ _ _ _ c.requires.0 _ _ _ c.loop-p.invariant (omega arith)
    (elim c.else-count-gt65535.branch [
      | else-count-gt65535-via-then-count-gt65535+else-triple_at-triple w ↦ λ _ e. w.if-triple_at-triple.false (w.triple_at.ensures.triple ∙ e)
      | else-count-gt65535-via-else-count-gt65535 w ↦ λ h _. omega (arith, w.if-count-gt65535.false)
    ])
