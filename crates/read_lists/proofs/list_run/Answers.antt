-- `list_run` meets its contract. The run is the rest of its part, and stands where the part does.
use Prim.Native.Nat.{ℕ, ◌+◌}
use mathlib.Core.Path.{◌≡◌}
use native.Mathlib.Omega.{arith}
use Rattle.read_lists.proofs.Lists.{part_fits, is_good, offset_fits, offset_inside, run_cut}
use Rattle.read_lists.proofs.list_run.Goals as goal

-- a place in a section, moved on
moved : {p q : ℕ × ℕ} {m n : ℕ} → p ≡ q → m ≡ n → ◌≡◌ {A = ℕ × ℕ} (p.0, m + p.1) (q.0, n + q.1)
moved e f = rw (e, f)

pub overflow_mul-size : goal.overflow_mul-size
overflow_mul-size c = record { fits = part_fits _ _ _ _ c.requires.0 c.requires.1 }

pub good_part-p-requires : goal.good_part-p-requires
good_part-p-requires c = is_good _ _ _ _ c.requires.0 c.requires.1 c.requires.2

pub overflow_mul-at : goal.overflow_mul-at
overflow_mul-at c = record { fits = omega (arith, offset_fits _ _ _ _ c.requires.0 c.requires.1) }

pub slice_bounds-result-count : goal.slice_bounds-result-count
slice_bounds-result-count c = offset_inside _ _ _ _ c.requires.0 c.requires.1 c.good_part-p.ensures.content (omega arith)

pub slice_bounds-result-start : goal.slice_bounds-result-start
slice_bounds-result-start c = offset_inside _ _ _ _ c.requires.0 c.requires.1 c.good_part-p.ensures.content (omega arith)

pub returns : goal.returns
returns c =
    let part = c.good_part-p in
    record {
      content = run_cut _ _ _ _ c.requires.0 c.requires.1 part.ensures.content (omega arith);
      place = moved part.ensures.place (omega arith);
    }
