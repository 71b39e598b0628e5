-- `distinct::index_of` meets its contract: it is the library's search in the ids that count.
use Rattle.std.proofs.Common.{◌∙◌, take, length, ap}
use Rattle.std.proofs.lemmas.List.{take_min}
use Rattle.std.specs.Option.{unwrap_or}
use Rattle.distinct.specs.Distinct.{index_of}
use Rattle.distinct.proofs.Laws.{found_or}
use Rattle.distinct.proofs.index_of.Goals as goal

pub returns : goal.returns
returns c =
    let a = c.args in
    let known = take c.min.result a.ids.now in
    found_or known a.id (c.unwrap_or.ensures ∙ ap (λ p. unwrap_or p (length known)) c.first_of.ensures)
    ∙ ap (λ l. index_of l a.id) (ap (λ n. take n a.ids.now) c.min.ensures ∙ take_min a.count a.ids.now)
