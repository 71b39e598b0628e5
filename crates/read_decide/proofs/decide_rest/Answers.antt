-- `decide_rest` meets its contract. Each return by the law of its answer (proofs/Decides); the numbers stay far below 2^64.
use Prim.Native.Nat.{ℕ}
use mathlib.Core.Path.{ap, ◌∙◌}
use mathlib.Core.List.{List}
use Rattle.std.proofs.lemmas.Result.{err_from_is_err_and}
use Rattle.fields.specs.Bytes.{le_at}
use Rattle.read_decide.proofs.Decides.{rest_stopped, tallied, portals_stop, parsed}
use Rattle.read_decide.proofs.decide_rest.Goals as goal

pub returns-in_err-words-clause-answer : goal.returns-in_err-words-clause-answer
returns-in_err-words-clause-answer c =
    let p = err_from_is_err_and c.from_residual.result c.from_residual.ensures.1 in
    rw (p.1, p.2) (λ points e. rest_stopped c.args.reader.system.now c.args.reader.graphics.now c.check_lists.ensures c.in_err-words.was points c.args.tree.sectors)

pub returns-then-portals_of-portals-clause-answer : goal.returns-then-portals_of-portals-clause-answer
returns-then-portals_of-portals-clause-answer c =
    λ points e. rw c.from.ensures (portals_stop c.args.reader.system.now c.args.reader.graphics.now c.check_lists.ensures c.in_ok-words.was (c.portal_count-portals.ensures.count ∙ ap (λ (l : List ℕ). le_at 4 l 0x14C) c.requires.0, c.portal_count-portals.ensures.bound) c.portals_of.ensures c.if-portals_of-portals.true points c.args.tree.sectors)

pub returns : goal.returns
returns c =
    let t = tallied c.args.reader.system.now c.args.reader.graphics.now c.check_lists.ensures c.in_ok-words.was in
    record {
      answer = λ points e. parsed c.args.reader.system.now c.args.reader.graphics.now c.check_lists.ensures c.in_ok-words.was (c.portal_count-portals.ensures.count ∙ ap (λ (l : List ℕ). le_at 4 l 0x14C) c.requires.0, c.portal_count-portals.ensures.bound) c.portals_of.ensures c.if-portals_of-portals.false points c.args.tree.sectors e;
      ready = t.ready;
    }
