-- The box of the cell's own record: whether its numbers are finite, by their bits. Definitions only.
use Rattle.std.specs.Prelude.{ℕ, ◌%◌, ◌^◌, Bool, ◌&&◌, ltb}
use Rattle.strip.specs.Cell.{Vec3, Head}

-- neither an infinity nor a NaN
abbrev pub finite_bits : ℕ → Bool
finite_bits w = ltb (w % 2 ^ 31) 0x7F80_0000

abbrev pub finite_vec : Vec3 → Bool
finite_vec v = finite_bits v.x && (finite_bits v.y && finite_bits v.z)

-- min, max and size
unfoldable pub finite_box : Head → Bool
finite_box h = finite_vec h.bb_min && (finite_vec h.bb_max && finite_vec h.bb_size)
