-- `read_list_set::read_lists` meets its contract: the first list that is refused decides; each accepted one is counted and readable by the law of its list.
use native.Mathlib.Omega.{arith}
use mathlib.Core.Path.{refl}
use Rattle.std.specs.Prelude.{Ok}
use Rattle.std.proofs.lemmas.Result.{err_from_is_err_and}
use Rattle.read_lists.proofs.Accepted.{readable}
use Rattle.read_list_set.specs.Listed.{lists_of}
use Rattle.read_list_set.proofs.read_lists.Goals as goal

pub returns-in_err-vertices-clause-answer : goal.returns-in_err-vertices-clause-answer
unfolding lists_of
returns-in_err-vertices-clause-answer c =
    let e = c.from_residual in
    let p = err_from_is_err_and e.result e.ensures.1 in
    rw (p.1, p.2, ← c.in_err-vertices.ensures.answer)

pub returns-in_err-indices-clause-answer : goal.returns-in_err-indices-clause-answer
unfolding lists_of
returns-in_err-indices-clause-answer c =
    let e = c.from_residual-in_err-indices in
    let p = err_from_is_err_and e.result e.ensures.1 in
    rw (p.1, p.2, ← c.in_ok-vertices.ensures.answer, ← c.in_err-indices.ensures.answer)

pub returns-in_err-edges-clause-answer : goal.returns-in_err-edges-clause-answer
unfolding lists_of
returns-in_err-edges-clause-answer c =
    let e = c.from_residual-in_err-edges in
    let p = err_from_is_err_and e.result e.ensures.1 in
    rw (p.1, p.2, ← c.in_ok-vertices.ensures.answer, ← c.in_ok-indices.ensures.answer, ← c.in_err-edges.ensures.answer)

pub returns-in_err-polys-clause-answer : goal.returns-in_err-polys-clause-answer
unfolding lists_of
returns-in_err-polys-clause-answer c =
    let e = c.from_residual-in_err-polys in
    let p = err_from_is_err_and e.result e.ensures.1 in
    rw (p.1, p.2, ← c.in_ok-vertices.ensures.answer, ← c.in_ok-indices.ensures.answer, ← c.in_ok-edges.ensures.answer, ← c.in_err-polys.ensures.answer)

pub returns : goal.returns
unfolding lists_of
returns c =
    let v = c.in_ok-vertices in
    let i = c.in_ok-indices in
    let e = c.in_ok-edges in
    let p = c.in_ok-polys in
    let rv = readable _ _ 6 c.args.va 1 {a = Ok v.vertices} (omega arith) (v.ensures.answer, v.ensures.bound) refl in
    let ri = readable _ _ 2 c.args.ia 2 {a = Ok i.indices} (omega arith) (i.ensures.answer, i.ensures.bound) refl in
    let re = readable _ _ 8 c.args.ea 3 {a = Ok e.edges} (omega arith) (e.ensures.answer, e.ensures.bound) refl in
    let rp = readable _ _ 48 c.args.pa 4 {a = Ok p.polys} (omega arith) (p.ensures.answer, p.ensures.bound) refl in
    record {
      answer = rw (← v.ensures.answer, ← i.ensures.answer, ← e.ensures.answer, ← p.ensures.answer);
      lists = record {
        vertices = record { readable = rv.0; count = rv.1 };
        indices = record { readable = ri.0; count = ri.1 };
        edges = record { readable = re.0; count = re.1 };
        polys = record { readable = rp.0; count = rp.1 };
        link_count = refl;
      };
    }
