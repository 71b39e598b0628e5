-- `write_list_blocks::list_places` meets its contract: the blocks' ends, one after the other.
use Rattle.std.proofs.Common.{arith}
use Rattle.write_blocks.proofs.Lists.{Ends, list_ends}
use Rattle.write_list_blocks.proofs.list_places.Goals as goal
use Rattle.write_list_blocks.proofs.list_places.Goals.{Start}

ends : (s : Start) → Ends s.args.l.at s.args.w s.args.n
ends s = list_ends s.args.l.at s.args.w s.args.n

pub alloc-header-requires : goal.alloc-header-requires
alloc-header-requires c = omega (arith, ends (goal.at.alloc-header-requires c).Start, c.requires.below)

pub overflow_mul-size : goal.overflow_mul-size
overflow_mul-size c = rw c.new-parts.ensures (omega (arith, c.requires.table))

pub start-requires : goal.start-requires
start-requires c = rw (c.alloc-header.ensures, c.new-parts.ensures) (omega (arith, ends (goal.at.start-requires c).Start, c.requires.below))

pub alloc-requires : goal.alloc-requires
alloc-requires c = rw (c.alloc-header.ensures, c.new-parts.ensures) (omega (arith, ends (goal.at.alloc-requires c).Start, c.requires.below))

pub parts_end-requires : goal.parts_end-requires
parts_end-requires c =
    rw (c.alloc.ensures, c.alloc-header.ensures, c.new-parts.ensures) (omega (arith, ends (goal.at.parts_end-requires c).Start, c.requires.below))

pub returns : goal.returns
returns c =
    let parts = c.new-parts.ensures in
    let header = c.alloc-header.ensures in record {
      parts = parts;
      table = rw (header, parts) at c.start.ensures;
      items = rw (c.alloc.ensures, header, parts) at c.parts_end.ensures;
    }
