-- `put_portal` meets its contract. The parts of the record are the record (proofs/Stores).
use mathlib.Core.Path.{refl, ◌∙◌}
use Rattle.read_records.proofs.Stores.{portal_stored}
use Rattle.read_grammar.specs.Derives.{portal_of}
use Rattle.read_records.specs.Back.{back_by}
use Rattle.read_records.proofs.portal.put_portal.Goals as goal

pub returns : goal.returns
unfolding portal_of
returns c = c.put_back.ensures ∙ rw (c.put_position-2.ensures, c.put_position.ensures, c.shorts_at-from.ensures, c.shorts_at-to.ensures, c.put_front.ensures) (portal_stored (back_by c.args.frame.bb_min c.args.frame.bb_size) c.args.b.now c.args.at _ _ c.args.strip.now refl refl)
