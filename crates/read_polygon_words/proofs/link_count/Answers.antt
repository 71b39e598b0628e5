-- `read_polygon_words::link_count` meets its contract: by the test on the end of the run, which is either in the table (`links_all`) or not (`links_none`).
use native.Mathlib.Omega.{arith}
use borrow.Author.Rules.{rules}
use Rattle.read_polygon_words.proofs.Words.{links_all, links_none}
use Rattle.read_polygon_words.proofs.link_count.Goals as goal

pub returns-then-start-named : goal.returns-then-start-named
returns-then-start-named c =
    let all = links_all c.args.rec.now c.args.n c.u32_le-w.ensures (omega (arith, c.if-start-named.true)) in
    record {
      count = omega (arith, all);
      bound = omega arith;
    }

pub returns-else-start-named : goal.returns-else-start-named
returns-else-start-named c =
    record {
      count = links_none c.args.rec.now c.args.n c.u32_le-w.ensures (omega (arith, c.if-start-named.false));
      bound = search rules;
    }
