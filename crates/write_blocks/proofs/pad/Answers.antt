-- `write_blocks::pad` meets its contract: the zeros are the bytes of the number 0.
use Rattle.std.proofs.Common.{◌∙◌, arith}
use Rattle.fields.proofs.Bytes.{le_zeros}
use Rattle.write_blocks.proofs.Layouts.{place_ge}
use Rattle.write_blocks.proofs.pad.Goals as goal

pub overflow_sub-start : goal.overflow_sub-start
overflow_sub-start c = omega (arith, place_ge c.args.l.at c.args.size, c.start-start.ensures)

pub returns : goal.returns
returns c =
    let start = c.start-start in
    record {
      start = start.ensures;
      out = c.put_le.ensures ∙ simp (le_zeros, start.ensures);
    }
