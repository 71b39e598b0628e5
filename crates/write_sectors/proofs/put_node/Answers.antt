-- `write_sectors::put_node` meets its contract: the four addresses are those of the subs' sectors, and `put_sector` stores the rest. Assumes nothing.
use Rattle.write_sectors.proofs.put_node.Goals as goal

pub returns : goal.returns
returns c = rw (c.address_of-s0.ensures, c.address_of-s1.ensures, c.address_of-s2.ensures, c.address_of-s3.ensures) at c.put_sector.ensures
