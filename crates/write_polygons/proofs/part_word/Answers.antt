-- `write_polygons::part_word` meets its contract: the three numbers are cut to bits that don't overlap, so their sum is the packed word, by arithmetic
-- (`part_bits`).
use Rattle.write_polygons.proofs.Records.{part_bits}
use Rattle.write_polygons.proofs.part_word.Goals as goal

pub returns : goal.returns
returns c = part_bits c.args.k c.args.links c.args.before
