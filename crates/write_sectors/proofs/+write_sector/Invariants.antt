-- The measure of `write_sectors::write_sector`: the depth.
use Rattle.write_sectors.proofs.+write_sector.Given as goal

abbrev pub decreases-write_sector : goal.decreases-write_sector
decreases-write_sector l = l.depth
