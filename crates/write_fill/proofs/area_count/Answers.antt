-- `write_fill::area_count` meets its contract: the lesser of the length and 32 is how many ids are taken. Assumes nothing.
use mathlib.Core.Path.{◌≡◌, sym, ◌∙◌}
use lib.ListN.{length, length-take}
use borrow.Author.Rules.{rules}
use Rattle.write_fill.proofs.area_count.Goals as goal

pub returns : goal.returns
returns c =
    let a = c.args.areas in
    let long : length a.ids ≡ 32 = search rules in
    c.min.ensures ∙ sym (length-take a.len a.ids ∙ rw long)
