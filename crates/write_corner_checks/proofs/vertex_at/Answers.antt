-- `write_corner_checks::vertex_at` meets its contract: the shorts of the position, each of 16 bits, are added as `triple_in` packs them.
use mathlib.Core.Path.{◌∙◌, ap}
use Rattle.math.specs.declared.vec3.Vec3.{Vec3 as Floats}
use Rattle.quantise.specs.Short.{outside_count}
use Rattle.write_pages.specs.Items.{triple_in}
use borrow.Author.Rules.{rules}
use Rattle.write_corner_checks.proofs.vertex_at.Goals as goal

pub returns : goal.returns
unfolding triple_in
returns c =
    let a = c.args in
    let at-floats = c.floats_at-v.ensures in
    record {
      triple = rw (c.from.ensures, c.from-2.ensures, c.from-3.ensures, c.quantise-made.ensures.shorts, at-floats);
      below = search rules;
      outside = c.quantise-made.ensures.outside ∙ ap (λ (v : Floats). outside_count v a.frame.bb_min a.frame.bb_size) at-floats;
      bound = c.quantise-made.ensures.bound;
    }
