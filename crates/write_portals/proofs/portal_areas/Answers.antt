-- `write_portals::portal_areas` meets its contract: the three fields stand at 2^0, 2^14 and 2^28 and don't meet, which is arithmetic once `pack` is written out. Assumes nothing.
use native.Mathlib.Omega.{arith}
use Rattle.fields.specs.Rows.{pack}
use Rattle.write_portals.proofs.portal_areas.Goals as goal

pub returns : goal.returns
unfolding pack
returns c = omega arith
