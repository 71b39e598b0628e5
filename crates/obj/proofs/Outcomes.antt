-- What a drawing comes to, by what each check finds. Assumes nothing.
use Prim.Native.Nat.{ℕ}
use mathlib.Core.Path.{◌≡◌}
use mathlib.Core.Bool.{true, false}
use mathlib.Core.List.{List}
use lib.Dec.{leb}
use lib.ListN.{length}
use Rattle.std.specs.Prelude.{Some, None}
use Rattle.strip.specs.Cell.{NavPoly, Head}
use Rattle.strip.specs.Outcome.{refused, done}
use Rattle.picking.specs.Picking.{first_from}
use Rattle.obj_text.specs.Text.{text_of}
use Rattle.obj_room.specs.Thin.{is_thin}
use Rattle.obj.specs.Obj.{drawn}

module _ (room : ℕ) (h : Head) (ps : List NavPoly) where
  pub too_thin : (k : ℕ) → first_from is_thin 0 ps ≡ Some k → drawn room h ps ≡ refused 41 k
  unfolding drawn
  too_thin k e = rw e

  pub too_long : first_from is_thin 0 ps ≡ None → leb (length (text_of h ps)) room ≡ false → drawn room h ps ≡ refused 2 0
  unfolding drawn
  too_long e f = rw (e, f)

  pub fitting : first_from is_thin 0 ps ≡ None → leb (length (text_of h ps)) room ≡ true → drawn room h ps ≡ done (length (text_of h ps)) (text_of h ps)
  unfolding drawn
  fitting e f = rw (e, f)
