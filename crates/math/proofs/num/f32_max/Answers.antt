-- `math::num::f32_max` meets its contract: std's `max` is one of the two, and not beyond either that is a number. Assumes nothing.
use Rattle.math.proofs.MinMax.{either_choice}
use Rattle.math.proofs.num.f32_max.Goals as goal

pub returns : goal.returns
returns c =
    record {
      picked = either_choice _ _ _ _ _ c.max.ensures.value;
      left = c.max.ensures.other_bound;
      right = c.max.ensures.self_bound;
    }
