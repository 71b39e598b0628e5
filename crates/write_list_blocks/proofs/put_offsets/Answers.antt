-- `write_list_blocks::put_offsets` meets its contract: a turn stores a part's first item number.
use Rattle.std.proofs.Common.{◌∙◌, arith}
use Rattle.fields.specs.Bytes.{les}
use Rattle.fields.proofs.Puts.{put_nil}
use Rattle.write_blocks.proofs.Lists.{sum_turn, length_turn, offsets_turn}
use Rattle.write_list_blocks.specs.Parts.{counts_left}
use Rattle.write_list_blocks.proofs.put_offsets.Goals as goal

pub loop-m-preserved : goal.loop-m-preserved
loop-m-preserved c =
    let l = c.loop-m in
    let ms = counts_left l.m-iterator in
    let rest = counts_left c.next.new.self in
    let m = c.in-Some.m in
    let e = c.in-Some.ensures.steps in
    (tt, tt, omega (arith, l.invariant.2, sum_turn ms rest m e), omega (arith, l.invariant.3, length_turn ms rest m e), rw c.put_le.ensures (offsets_turn ms rest m e l.entry l.first l.out ∙ l.invariant.4))

pub returns : goal.returns
unfolding les
returns c = rw (c.in-None.ensures.steps.0, les, put_nil) at c.loop-m.invariant.4
