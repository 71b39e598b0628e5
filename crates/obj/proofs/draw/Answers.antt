-- `obj::draw` meets its contract: what the tally tells and whether the text fits decide one outcome each.
use mathlib.Core.Path.{refl, sym, ap, ◌∙◌}
use native.Mathlib.Omega.{arith}
use borrow.Author.Tests.{leb-true}
use lib.ListN.{length}
use Rattle.fields.proofs.Puts.{put_whole}
use Rattle.strip.specs.Reading.{head_at}
use Rattle.strip.specs.Rows.{polygons_at}
use Rattle.strip.specs.Outcome.{values, refusal_of}
use Rattle.obj.proofs.Outcomes.{too_thin, too_long, fitting}
use Rattle.obj.proofs.draw.Goals as goal

pub returns-in-Ok : goal.returns-in-Ok
returns-in-Ok c =
    let a = c.args in
    let s = a.strip.now in
    let ps = polygons_at s 14 a.n in
    let room = length a.text.now in
    let fine = sym c.fits.ensures ∙ c.if-fits.true in
    let stored = c.put_obj.ensures in
    rw (fitting room (head_at s 0) ps c.in-Ok.ensures.0 fine) record {
      answer = ap values (omega (arith, stored.place));
      text = stored.bytes ∙ put_whole _ _ (leb-true _ room fine);
    }

pub returns-in-Ok-2 : goal.returns-in-Ok-2
returns-in-Ok-2 c =
    let a = c.args in
    let s = a.strip.now in
    let ps = polygons_at s 14 a.n in
    rw (too_long (length a.text.now) (head_at s 0) ps c.in-Ok.ensures.0 (sym c.fits.ensures ∙ c.if-fits.false)) record { answer = ap refusal_of c.into.ensures; text = refl }

pub returns-in-Err : goal.returns-in-Err
returns-in-Err c =
    let a = c.args in
    let s = a.strip.now in
    rw (too_thin (length a.text.now) (head_at s 0) (polygons_at s 14 a.n) _ c.in-Err.ensures) record { answer = refl; text = refl }
