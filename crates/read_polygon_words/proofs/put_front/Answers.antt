-- `read_polygon_words::put_front` meets its contract: the four words and the links behind them are stored in turn, and both stores make one.
use native.Mathlib.Omega.{arith}
use mathlib.Core.Path.{ap, ◌∙◌}
use lib.ListN.{length}
use Rattle.read_polygon_words.proofs.Words.{front_put}
use Rattle.read_polygon_words.proofs.put_front.Goals as goal

pub put_links-requires : goal.put_links-requires
put_links-requires c = (c.requires.0, omega (arith, ap length c.put_words.ensures, c.requires.3))

pub returns : goal.returns
returns c = c.put_links.ensures ∙ rw (c.put_words.ensures, c.from.ensures, c.u16_le.ensures, c.u32_le.ensures, c.u32_le-2.ensures) (front_put _ _ c.requires.0 c.requires.1 c.requires.2 _ _)
