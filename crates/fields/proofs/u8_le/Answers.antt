-- `fields::u8_le` meets its contract: a number of one byte is the byte.
use Rattle.std.proofs.Common.{◌≡◌, ◌∙◌, sym, rules, get_or}
use Rattle.fields.proofs.Bytes.{le_one}
use Rattle.fields.proofs.u8_le.Goals as goal

pub returns : goal.returns
returns c =
    let a = c.args in
    let v : c.unwrap_or.result ≡ get_or a.b.now a.off 0 = search rules in
    v ∙ sym (le_one a.b.now a.off)
