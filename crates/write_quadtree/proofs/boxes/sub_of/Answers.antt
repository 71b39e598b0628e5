-- `write_quadtree::boxes::sub_of` meets its contract: the subs of the upper range of x, then those of the lower one: the first that holds the point (`first_within`), behind those passed (`first_past`).
use mathlib.Core.Path.{refl}
use native.Mathlib.Omega.{arith}
use Rattle.write_quadtree.proofs.Placing.{first_within, first_past}
use Rattle.write_quadtree.proofs.boxes.sub_of.Goals as goal

pub returns-then-s-lt2 : goal.returns-then-s-lt2
returns-then-s-lt2 c =
    record {
      sub = first_within _ _ c.side_of-s.ensures.side c.if-s-lt2.true;
      bound = omega (arith, c.if-s-lt2.true);
    }

pub overflow_add-result : goal.overflow_add-result
overflow_add-result c = omega (arith, c.side_of.ensures.bound)

pub returns : goal.returns
returns c =
    record {
      sub = first_past _ _ c.side_of-s.ensures.side c.if-s-lt2.false c.side_of.ensures.side refl;
      bound = omega (arith, c.side_of.ensures.bound);
    }
