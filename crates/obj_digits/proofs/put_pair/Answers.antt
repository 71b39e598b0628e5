-- `obj_digits::put_pair` meets its contract: two stores side by side are one.
use mathlib.Core.Path.{refl}
use Rattle.fields.proofs.Puts.{put_two}
use Rattle.obj_digits.proofs.put_pair.Goals as goal

pub returns : goal.returns
returns c = record { bytes = rw (c.digit.ensures, c.digit-2.ensures) (put_two c.args.at _ _ c.args.text.now); place = refl }
