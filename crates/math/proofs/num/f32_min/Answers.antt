-- `math::num::f32_min` meets its contract: std's `min` is one of the two, and not beyond either that is a number. Assumes nothing.
use Rattle.math.proofs.MinMax.{either_choice}
use Rattle.math.proofs.num.f32_min.Goals as goal

pub returns : goal.returns
returns c =
    record {
      picked = either_choice _ _ _ _ _ c.min.ensures.value;
      left = c.min.ensures.other_bound;
      right = c.min.ensures.self_bound;
    }
