-- `obj_room::fits` meets its contract: ample room is more than the text can take, and otherwise its measured length decides.
use Prim.Native.Nat.{ℕ, ◌^◌, ◌<◌, min}
use mathlib.Core.Path.{◌≡◌, sym, ◌∙◌}
use native.Mathlib.Omega.{arith}
use native.Mathlib.Decide.{dec_lt}
use borrow.Author.Tests.{le-leb, lt-leb}
use lib.Dec.{leb, lit≤}
use lib.ListN.{length}
use Rattle.strip.specs.Reading.{head_at}
use Rattle.strip.specs.Rows.{polygons_at}
use Rattle.strip.proofs.Lengths.{poly_count}
use Rattle.obj_text.specs.Text.{text_of}
use Rattle.obj_length.specs.Last.{last}
use Rattle.obj_room.proofs.Lengths.{text_most}
use Rattle.obj_room.proofs.fits.Goals as goal

pub returns-then-is_ample : goal.returns-then-is_ample
returns-then-is_ample c =
    let a = c.args in
    let s = a.strip.now in
    let ample = c.is_ample.ensures c.if-is_ample.true in
    let most = text_most 5 (head_at s 0) (polygons_at s 14 a.n) (omega (arith, lit≤ {m = 1000000} {n = 10 ^ 6} tt, c.requires.2, ample.0)) in
    c.if-is_ample.true ∙ sym (le-leb (length (text_of (head_at s 0) (polygons_at s 14 a.n))) a.room (omega (arith, most, c.requires.2, ample.1, poly_count s a.n)))

-- the measure stops at the last number, and the room is below it
measured : (n room : ℕ) → room < last → leb (min n last) room ≡ leb n room
measured n room h = by (dec_lt room n)
  where
    by : Dec (room < n) → leb (min n last) room ≡ leb n room
    by (yes k) = lt-leb (min n last) room (omega arith) ∙ sym (lt-leb n room k)
    by (no k) = le-leb (min n last) room (omega arith) ∙ sym (le-leb n room (omega arith))

pub returns-else-is_ample : goal.returns-else-is_ample
returns-else-is_ample c = rw c.measure.ensures (measured _ c.args.room c.requires.3)
