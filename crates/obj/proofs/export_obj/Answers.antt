-- `obj::export_obj` meets its contract: the drawing of the cell that the checks found.
use mathlib.Core.Path.{refl}
use native.Mathlib.Omega.{arith}
use lib.ListN.{length}
use Rattle.strip_parts.proofs.Boxed.{boxed, on_box_lem}
use Rattle.obj.specs.Obj.{drawn}
use Rattle.obj.proofs.export_obj.Goals as goal

pub draw-requires : goal.draw-requires
draw-requires c =
    let b = boxed _ _ _ c.in_ok-counts.ensures refl in
    (b.formed.long, omega (arith, b.formed.length_is))

pub returns : goal.returns
returns c =
    let b = boxed _ _ _ c.in_ok-counts.ensures refl in
    rw (on_box_lem _ (λ x. drawn (length c.args.text.now) x.head x.polys) b) record { answer = c.draw.ensures.answer; text = c.draw.ensures.text }
