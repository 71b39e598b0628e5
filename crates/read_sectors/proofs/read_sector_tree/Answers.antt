-- `read_sector_tree` meets its contract: what each answer of the walk says is a law of proofs/Answers.
use native.Mathlib.Omega.{arith}
use mathlib.Core.Path.{refl}
use Rattle.std.proofs.lemmas.Result.{err_from_is_err_and}
use Rattle.read_sectors.proofs.Answers.{says_null, says_refused, says_tree}
use Rattle.read_sectors.proofs.read_sector_tree.Goals as goal

pub returns-then-root-eq0 : goal.returns-then-root-eq0
returns-then-root-eq0 c =
    record {
      answer = rw c.from.ensures (says_null _ _ _ c.if-root-eq0.true);
      bound = tt;
    }

pub returns-in_err-end : goal.returns-in_err-end
returns-in_err-end c =
    let p = err_from_is_err_and c.from_residual.result c.from_residual.ensures.1 in
    rw (p.1, p.2)
    (record {
      answer = says_refused _ _ _ c.if-root-eq0.false refl c.in_err-end.ensures;
      bound = tt;
    })

pub returns : goal.returns
returns c =
    let few = c.in_ok-end.ensures.within.1 in
    record {
      answer = says_tree _ _ _ c.if-root-eq0.false refl c.in_ok-end.ensures;
      bound = omega arith;
    }
