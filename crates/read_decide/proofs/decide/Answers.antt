-- `decide` meets its contract. Each return by the law of its answer (proofs/Decides).
use Prim.Native.Nat.{ℕ}
use mathlib.Core.Path.{ap, ◌∙◌}
use mathlib.Core.List.{List}
use Rattle.std.proofs.lemmas.Result.{err_from_is_err_and}
use Rattle.fields.specs.Bytes.{le_at}
use Rattle.read_decide.proofs.Decides.{head_stopped, tree_stopped, few_points, decided}
use Rattle.read_decide.proofs.decide.Goals as goal

pub decide_rest-requires : goal.decide_rest-requires
decide_rest-requires c = (c.requires.header_is, few_points c.args.reader.system.now c.args.reader.graphics.now (c.check_head.ensures c.args.reader.system.now c.args.reader.graphics.now c.requires) c.in_ok-check_head.was (c.u64_le.ensures ∙ ap (λ (l : List ℕ). le_at 8 l 0x120) c.requires.header_is) c.read_sector_tree.result (c.read_sector_tree.ensures.answer, c.read_sector_tree.ensures.bound) c.in_ok-tree.was)

pub returns-in_err-check_head-clause-answer : goal.returns-in_err-check_head-clause-answer
returns-in_err-check_head-clause-answer c =
    let p = err_from_is_err_and c.from_residual.result c.from_residual.ensures.1 in
    rw (p.1, p.2) (head_stopped c.args.reader.system.now c.args.reader.graphics.now (c.check_head.ensures c.args.reader.system.now c.args.reader.graphics.now c.requires) c.in_err-check_head.was)

pub returns-in_err-tree-clause-answer : goal.returns-in_err-tree-clause-answer
returns-in_err-tree-clause-answer c =
    let p = err_from_is_err_and c.from_residual-in_err-tree.result c.from_residual-in_err-tree.ensures.1 in
    rw (p.1, p.2) (tree_stopped c.args.reader.system.now c.args.reader.graphics.now (c.check_head.ensures c.args.reader.system.now c.args.reader.graphics.now c.requires) c.in_ok-check_head.was (c.u64_le.ensures ∙ ap (λ (l : List ℕ). le_at 8 l 0x120) c.requires.header_is) c.read_sector_tree.result (c.read_sector_tree.ensures.answer, c.read_sector_tree.ensures.bound) c.in_err-tree.was)

pub returns : goal.returns
returns c =
    record {
      answer = decided c.args.reader.system.now c.args.reader.graphics.now (c.check_head.ensures c.args.reader.system.now c.args.reader.graphics.now c.requires) c.in_ok-check_head.was (c.u64_le.ensures ∙ ap (λ (l : List ℕ). le_at 8 l 0x120) c.requires.header_is) c.read_sector_tree.result (c.read_sector_tree.ensures.answer, c.read_sector_tree.ensures.bound) c.in_ok-tree.was c.decide_rest.result c.decide_rest.ensures.answer;
      ready = c.decide_rest.ensures.ready;
    }
