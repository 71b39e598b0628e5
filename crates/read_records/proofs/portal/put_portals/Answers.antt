-- `put_portals` meets its contract. Invariant: what is left of the portals, stored from here on, gives what is promised.
use mathlib.Core.Path.{sym, ◌∙◌}
use borrow.Author.Rules.{rules}
use Rattle.strip.specs.Cell.{portal_words}
use Rattle.read_records.proofs.Items.{put_begin, put_lent, put_end}
use Rattle.strip.proofs.Plain.{portal_length}
use Rattle.read_records.proofs.portal.put_portals.Goals as goal

pub loop-i-init : goal.loop-i-init
loop-i-init c = put_begin portal_words 11 portal_length _ _ _ _ _ _

pub loop-i-preserved : goal.loop-i-preserved
loop-i-preserved c = put_lent portal_words 11 portal_length _ 28 _ _ _ _ _ c.loop-i-test.true c.put_portal.ensures ∙ c.loop-i.invariant

pub returns : goal.returns
returns c = sym (put_end portal_words 11 portal_length _ 28 c.args.n _ _ c.loop-i.i c.loop-i.strip (search rules)) ∙ (rw c.frame-frame.ensures at c.loop-i.invariant)
