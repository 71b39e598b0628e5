-- `areas::ensure_id` meets its contract: each of its three ends is a law of `Ids`, whose tests and numbers are met by arithmetic.
use Rattle.std.proofs.Common.{min, refl, arith, rules}
use Rattle.areas.proofs.Ids.{answer_old, answer_new, answer_full}
use borrow.Author.Rules.{rules}
use Rattle.areas.proofs.ensure_id.Goals as goal

pub returns-then-at-count : goal.returns-then-at-count
returns-then-at-count c = let w = answer_old _ (search rules) _ _ (min c.args.len 32) _ refl c.index_of-at.ensures (omega (arith, c.if-at-count.true)) _ _ (omega arith) (omega arith) in record { answer = w.0; table = w.1 }

pub returns-then-count-lt32 : goal.returns-then-count-lt32
returns-then-count-lt32 c = let w = answer_new _ (search rules) _ _ (min c.args.len 32) _ refl c.index_of-at.ensures (omega (arith, c.if-at-count.false)) (omega (arith, c.if-count-lt32.true)) _ _ (omega arith) (omega arith) in record { answer = w.0; table = w.1 }

pub returns : goal.returns
returns c = let w = answer_full _ (search rules) _ _ (min c.args.len 32) _ refl c.index_of-at.ensures (omega (arith, c.if-at-count.false)) (omega (arith, c.if-count-lt32.false)) _ (omega arith) in record { answer = w.0; table = w.1 }
