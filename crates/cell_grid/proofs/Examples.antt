-- Positions that antt computes: a NaN, the ends of the range, and a spot beside a border.
use Rattle.std.proofs.Common.{◌≡◌, true, false, refl}
use lib.Ieee.{nan, inf, binary32, of_bits, sub, div}
use Rattle.cell_grid.specs.Grid.{in_grid, coordinate}

not_a_number : coordinate nan ≡ 0
unfolding coordinate in_grid sub div
not_a_number = refl

far_west : coordinate (inf true) ≡ 0
unfolding coordinate in_grid sub div
far_west = refl

far_east : coordinate (inf false) ≡ 99
unfolding coordinate in_grid sub div
far_east = refl

-- -10 ^ -30 lies in cell 39, whose end is 0; less the origin it rounds to 6000, so that it is answered 40, as in the Rust
beside_the_border : coordinate (of_bits binary32 0x8da24260) ≡ 40
unfolding coordinate in_grid sub div of_bits
beside_the_border = refl
