-- The signed number that 16 bits stand for. Definitions only.
use Rattle.std.specs.Prelude.{ℕ, ◌-◌, cond, ℤ, pos, negsuc, nat_lt}

-- from 16 bits back to the number that they stand for: `bits16` the other way round
abbrev pub int16 : ℕ → ℤ
int16 n = cond (nat_lt n 32768) (pos n) (negsuc (65535 - n))
