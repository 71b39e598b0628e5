-- `read_polygon_words::put_links` meets its contract. The loop's invariant: storing what is left from here gives what is promised.
use native.Mathlib.Nat.{add-zero}
use mathlib.Core.Path.{sym, ◌∙◌}
use Rattle.read_polygon_words.proofs.Words.{link_step, links_end}
use Rattle.read_polygon_words.proofs.put_links.Goals as goal

pub loop-k-init : goal.loop-k-init
loop-k-init c = rw (add-zero)

pub loop-k-preserved : goal.loop-k-preserved
loop-k-preserved c = link_step _ _ c.loop-k.k _ _ c.u32_le.ensures (c.from.ensures ∙ c.u16_le.ensures) (rw (← c.requires.0) c.loop-k-test.true) ∙ c.loop-k.invariant

pub returns : goal.returns
returns c = sym (links_end _ _ c.loop-k.k _ _ (rw (← c.requires.0) c.loop-k-test.false)) ∙ c.loop-k.invariant
