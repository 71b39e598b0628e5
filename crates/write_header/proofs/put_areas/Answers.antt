-- `write_header::put_areas` meets its contract: the ids, and zeros behind them. Assumes nothing.
use Rattle.std.proofs.Common.{◌≡◌, ℕ, ◌≤◌, min, length, take, sym, ap, ◌∙◌, arith}
use Rattle.std.proofs.lemmas.List.{take_min}
use borrow.Author.Rules.{rules}
use Rattle.write_header.proofs.Records.{areas_some}
use Rattle.write_header.proofs.put_areas.Goals as goal

pub returns : goal.returns
returns c =
    let areas = c.args.areas in
    let n = c.min-n.result in
    let long : length areas.ids ≡ 32 = search rules in
    let few : n ≤ 32 = omega (arith, c.min-n.ensures) in
    let same : take n areas.ids ≡ take areas.len areas.ids =
    ap (λ (j : ℕ). take j areas.ids) (c.min-n.ensures ∙ ap (min areas.len) (sym long)) ∙ take_min areas.len areas.ids in
    rw same at (areas_some areas.ids n c.args.out.now _ _ long few c.put_all.ensures c.put_le.ensures)
