-- `pushed::outside_at` meets its contract. Assumes nothing.
use mathlib.Core.Path.{◌∙◌, ap}
use Rattle.math.specs.declared.vec3.Vec3.{Vec3 as Floats}
use Rattle.quantise.specs.Short.{outside_count}
use Rattle.pushed.proofs.outside_at.Goals as goal

pub returns : goal.returns
returns c =
    let a = c.args in
    record {
      count = c.outside_of.ensures.count ∙ ap (λ (v : Floats). outside_count v a.frame.bb_min a.frame.bb_size) c.floats_at.ensures;
      bound = c.outside_of.ensures.bound;
    }
