-- `write_polygons::count_bits_lem` meets its contract: five zero bits below the count are a factor of 32, by arithmetic (`count_bits_lem`).
use Rattle.write_polygons.proofs.Records.{count_bits_lem}
use Rattle.write_polygons.proofs.count_bits.Goals as goal

pub returns : goal.returns
returns c = count_bits_lem c.args.vertices
