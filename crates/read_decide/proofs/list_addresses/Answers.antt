-- `list_addresses` meets its contract. Four fields of the header.
use Rattle.read_decide.specs.Deciding.{addresses}
use Rattle.read_decide.proofs.list_addresses.Goals as goal

pub returns : goal.returns
unfolding addresses
returns c = rw (c.u64_le.ensures, c.u64_le-2.ensures, c.u64_le-3.ensures, c.u64_le-4.ensures)
