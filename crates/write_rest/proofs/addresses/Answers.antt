-- `write_rest::addresses` meets its contract: each address is `address_of`'s, and all seven together are the definition's. Assumes nothing.
use Rattle.write_rest.proofs.addresses.Goals as goal

pub returns : goal.returns
returns c = rw (c.address_of.ensures, c.address_of-2.ensures, c.address_of-3.ensures, c.address_of-4.ensures, c.address_of-5.ensures, c.address_of-6.ensures, c.address_of-7.ensures)
