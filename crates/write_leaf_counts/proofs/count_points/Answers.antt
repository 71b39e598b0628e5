-- `write_leaf_counts::count_points` meets its contract: a part is taken off the front of what is left (`count_append`).
use mathlib.Core.Path.{◌≡◌, ap, ◌∙◌}
use Prim.Native.Nat.{ℕ, ◌+◌}
use mathlib.Core.List.{List}
use native.Mathlib.Omega.{arith}
use lib.ListN.{length}
use Rattle.std.specs.Slice.Iter.{chunks_rest}
use Rattle.write_leaf_counts.specs.Work.{count_in}
use Rattle.write_leaf_counts.proofs.Picks.{count_append, count_few, count_none}
use Rattle.write_leaf_counts.proofs.count_points.Goals as goal
use Rattle.write_leaf_counts.proofs.count_points.Goals.{After-count_part}

abbrev left : List ℕ → ℕ → ℕ
left w k = count_in w k 0 (length w)

turn : (c : After-count_part) → left (chunks_rest c.loop-part.part-iterator) c.args.k ≡ c.count_part.result + left (chunks_rest c.next.new.self) c.args.k
turn c =
    rw c.count_part.ensures (ap (λ (w : List ℕ). left w c.args.k) c.in-Some.ensures.steps.1.0 ∙ count_append c.args.k c.in-Some.part.now (chunks_rest c.next.new.self))

pub count_part-requires : goal.count_part-requires
count_part-requires c = omega (arith, c.in-Some.ensures.steps, c.loop-part.invariant.size)

pub overflow_add-n : goal.overflow_add-n
overflow_add-n c = omega (arith, turn (goal.at.overflow_add-n c).After-count_part, c.loop-part.invariant.counted, count_few c.args.leaf_numbers.now c.args.k 0 (length c.args.leaf_numbers.now), c.well_formed)

pub loop-part-preserved : goal.loop-part-preserved
loop-part-preserved c = record {
  next = omega (arith, c.in-Some.ensures.steps.0, c.loop-part.invariant.size);
  finite = tt;
  size = c.in-Some.ensures.steps.0 ∙ c.loop-part.invariant.size;
  counted = omega (arith, turn (goal.at.loop-part-preserved c).After-count_part, c.loop-part.invariant.counted);
}

pub returns : goal.returns
returns c = omega (arith, c.loop-part.invariant.counted, count_none (chunks_rest c.loop-part.part-iterator) c.args.k (length (chunks_rest c.loop-part.part-iterator)) c.in-None.ensures.steps.1.0)
