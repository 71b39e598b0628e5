-- `write_list_blocks::part_count` meets its contract: a rest of items takes a part more.
use Rattle.std.proofs.Common.{◌+◌, ◌-◌, ◌/◌, ◌∙◌, arith}
use native.Mathlib.Nat.{div-zero}
use Rattle.write_blocks.proofs.Lists.{count_sum}
use Rattle.write_list_blocks.proofs.part_count.Goals as goal

pub returns-then-w-eq0 : goal.returns-then-w-eq0
returns-then-w-eq0 c = let a = c.args in rw (c.if-w-eq0.true, div-zero (a.n + (16384 / 0 - 1)))

pub returns-then-per-eq0 : goal.returns-then-per-eq0
returns-then-per-eq0 c = rw (c.if-per-eq0.true, div-zero)

pub returns : goal.returns
returns c = let a = c.args in c.div_ceil.ensures ∙ count_sum (16384 / a.w) a.n (omega (arith, c.if-per-eq0.false))
