-- `strip_check::all_below` meets its contract: all words of the row are asked.
use Rattle.std.proofs.Common.{rules, arith, ◌≡◌, ◌+◌, ◌-◌, take, drop, ltb, ◌∙◌}
use Rattle.std.proofs.lemmas.List.Recursion.{and_is}
use Rattle.strip_check.proofs.Below.{below, below_none, below_more, below_words}
use Rattle.strip_check.proofs.all_below.Goals as goal

pub returns : goal.returns
returns c =
    let a = c.args in
    let n-is : a.at + a.n - a.at ≡ a.n = omega arith in
    and_is (below a.limit) (λ x. ltb x a.limit) (below_none _) (below_more _) (take a.n (drop a.at a.strip.now)) 0 _ (search rules) (search rules)
    ∙ below_words _ _ _ _ c.requires
